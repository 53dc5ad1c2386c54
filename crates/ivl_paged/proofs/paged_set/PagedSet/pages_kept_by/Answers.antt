use Rattle.std.proofs.Common.{◌≡◌, ◌∙◌, ◌++◌, List, ℤ, ap, ap₂, subst, sym, of_calls}
use Rattle.std.specs.List.Retain.{IsFiltered}
use Rattle.ivl_laws.specs.Runs.{IsMaximal}
use Rattle.ivl_paged.specs.Pages.{flattened}
use Rattle.ivl_paged.proofs.Iterating.{nothing_left}
use Rattle.ivl_paged.proofs.Paging.{IsMaximal-second}
use Rattle.ivl_paged.proofs.Retaining.{IsKeptSoFar, IsMaximal-kept, IsMaximal-one_more, all_kept, asked_at, none_kept, one_kept, one_passed}
use Rattle.ivl_paged.proofs.paged_set.PagedSet.pages_kept_by.Goals as goal

pub runs-init : goal.runs-init
runs-init g c = (
  search of_calls,
  none_kept _ c.args.keeps c.args.self.now c.iter-left.result (flattened c.new-pages.result ++ c.new-kept.result.items) c.iter-left.ensures.rest
      (ap₂ (λ (A B : List (ℤ × ℤ)). A ++ B) (ap flattened c.new-pages.ensures) c.new-kept.ensures.items),
)

pub runs-preserved-then-not-keeps : goal.runs-preserved-then-not-keeps
runs-preserved-then-not-keeps g c = (
  search of_calls,
  one_passed _ c.args.keeps c.runs.keeps c.keeps.new.self c.args.self.now c.runs.left c.next.new.self (flattened c.runs.pages ++ c.runs.kept.items) c.in-Some.run' c.runs.invariant.1
      c.in-Some.ensures.steps
      (asked_at (goal.F-step g) g.B.Width.value g.B.Width.at g.met.B.Width.at_value c.runs.keeps c.keeps.new.self c.lower_bound.result c.upper_bound.result c.in-Some.run' c.keeps.result _ c.lower_bound.ensures c.upper_bound.ensures
      c.if-not-keeps.true c.keeps.ensures),
)

pub push_behind-requires : goal.push_behind-requires
push_behind-requires g c =
    IsMaximal-one_more _ c.args.keeps c.runs.keeps c.keeps.new.self c.args.self.now c.runs.left c.next.new.self (flattened c.runs.pages) c.runs.kept.items c.in-Some.run' c.iter-left.ensures.runs.maximal c.runs.invariant.1
    c.in-Some.ensures.steps
    (asked_at (goal.F-step g) g.B.Width.value g.B.Width.at g.met.B.Width.at_value c.runs.keeps c.keeps.new.self c.lower_bound.result c.upper_bound.result c.in-Some.run' c.keeps.result _ c.lower_bound.ensures c.upper_bound.ensures
    c.if-not-keeps.false c.keeps.ensures)

pub runs-preserved : goal.runs-preserved
runs-preserved g c = (
  search of_calls,
  subst (IsKeptSoFar _ c.args.keeps c.keeps.new.self c.args.self.now c.next.new.self) (sym c.in_ok-push_behind.ensures)
      (one_kept _ c.args.keeps c.runs.keeps c.keeps.new.self c.args.self.now c.runs.left c.next.new.self (flattened c.runs.pages ++ c.runs.kept.items) c.in-Some.run' c.runs.invariant.1
      c.in-Some.ensures.steps
      (asked_at (goal.F-step g) g.B.Width.value g.B.Width.at g.met.B.Width.at_value c.runs.keeps c.keeps.new.self c.lower_bound.result c.upper_bound.result c.in-Some.run' c.keeps.result _ c.lower_bound.ensures c.upper_bound.ensures
      c.if-not-keeps.false c.keeps.ensures)),
)

pub push_runs-requires : goal.push_runs-requires
push_runs-requires g c =
    subst IsMaximal (sym c.deref.ensures.value)
    (IsMaximal-second (flattened c.runs.pages) c.runs.kept.items
    (IsMaximal-kept _ c.args.keeps c.runs.keeps c.args.self.now c.runs.left (flattened c.runs.pages ++ c.runs.kept.items) c.iter-left.ensures.runs.maximal c.runs.invariant.1))

pub returns : goal.returns
returns g c =
    let made : flattened c.push_runs.new.pages ≡ flattened c.runs.pages ++ c.runs.kept.items = c.in_ok-push_runs.ensures ∙ ap (λ (K : List (ℤ × ℤ)). flattened c.runs.pages ++ K) c.deref.ensures.value in
    subst (IsFiltered _ c.args.keeps c.args.self.now) (sym made)
    (all_kept _ c.args.keeps c.runs.keeps c.args.self.now c.runs.left (flattened c.runs.pages ++ c.runs.kept.items) c.runs.invariant.1
    (nothing_left c.runs.left c.next.new.self c.next.result c.next.ensures.steps c.in_default.not-Some))
