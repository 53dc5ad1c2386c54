use Rattle.std.proofs.Common.{◌∙◌, List, ℤ, ap, arith, refl, subst, sym}
use Rattle.ivl_laws.specs.Runs.{Covers, IsRunsOf}
use Rattle.ivl_laws.specs.Sets.{HasSome, Intersection, IsBetween, Union}
use Rattle.std.specs.Prelude.{MatchOption}
use Rattle.ivl_places.specs.Edits.{widened}
use Rattle.ivl_places.specs.Neighbours.{IsRunWith}
use Rattle.std.specs.Int.{int_min}
use Rattle.ivl_laws.proofs.Orders.{min_number}
use Rattle.ivl_paged.proofs.Counting.{err_is_not_ok}
use Rattle.ivl_paged.proofs.Heads.{least_of_union, lower_of}
use Rattle.ivl_paged.proofs.Longest.{grown_part}
use Rattle.ivl_paged.proofs.Widening.{alone_if_more, nothing_to_add}
use Rattle.ivl_paged.proofs.page.Page.insert_interval.Goals as goal

pub returns-then-ends_at_or_above-clause-ok : goal.returns-then-ends_at_or_above-clause-ok
returns-then-ends_at_or_above-clause-ok g c =
    let L : List (ℤ × ℤ) = c.self.inside.set in
    subst (λ (M : List (ℤ × ℤ)). IsRunsOf M (Union (Covers M) (IsBetween c.args.interval))) c.self.view_is
    (nothing_to_add c.find_run-place.result.1 L c.args.interval (g.B.Width.value c.lower_bound.result) (g.B.Width.value c.upper_bound.result) c.interval_count-count.ensures.runs.maximal c.lower_bound.ensures c.upper_bound.ensures
    (subst (λ (M : List (ℤ × ℤ)). MatchOption c.find_run-place.result.1 (¬ (Covers M (g.B.Width.value c.lower_bound.result))) (IsRunWith (g.B.Width.value c.lower_bound.result) (Covers M))) c.runs.ensures.same c.find_run-place.ensures.run) (c.ends_at_or_above.ensures c.if-ends_at_or_above.true))

pub run_after-joined-requires : goal.run_after-joined-requires
run_after-joined-requires g c = λ more.
    alone_if_more c.self.inside.set c.insert_interval_near.new.self c.args.interval c.interval_count-count.ensures.runs.maximal c.requires c.in_ok-insert_interval_near.ensures.ok (let count = c.interval_count-count.ensures.count in omega (arith, count, more))

pub invariant_of-self-2 : goal.invariant_of-self-2
invariant_of-self-2 g c = (
  least_of_union (Covers c.self.inside.set) (Covers c.insert_interval_near.new.self) c.args.interval (g.B.Width.value c.self.inside.head) (g.B.Width.value c.min-self-inside.result) c.requires c.self.invariant.0 c.in_ok-insert_interval_near.ensures.ok.members
      (lower_of (g.B.Width.value c.self.inside.head) c.args.interval.0 (g.B.Width.value c.min-self-inside.result)
      (min_number g.met.B.Width.ordered _ _ _ c.min-self-inside.ensures ∙ ap (λ (x : ℤ). int_min (g.B.Width.value c.self.inside.head) x) c.lower_bound-2.ensures)),
  grown_part c.run_after-joined.result c.self.inside.longest c.longer-self-inside.result (Covers c.self.inside.set) (Covers c.insert_interval_near.new.self) c.args.interval c.args.interval.0 refl c.self.invariant.1
      c.in_ok-insert_interval_near.ensures.ok.members c.requires c.run_after-joined.ensures c.longer-self-inside.ensures,
)

pub returns-in_err-insert_interval_near-clause-in_place : goal.returns-in_err-insert_interval_near-clause-in_place
returns-in_err-insert_interval_near-clause-in_place g c = λ n.
    absurd (err_is_not_ok c.insert_interval_near.result _ c.in_err-insert_interval_near.was
    (c.insert_interval_near.ensures.in_place (subst (λ (L : List (ℤ × ℤ)). HasSome (Intersection (Covers L) (IsBetween (widened c.args.interval)))) (sym c.self.view_is) n)))
