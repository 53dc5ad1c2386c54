use Rattle.std.proofs.Common.{List, ℤ, arith, subst, sym}
use Rattle.std.proofs.lemmas.Int.{ints}
use Rattle.std.specs.Prelude.{MatchOption}
use Rattle.ivl_laws.specs.Runs.{Covers, IsRunsOf}
use Rattle.ivl_laws.specs.Sets.{IsBetween, IsSubset, Without}
use Rattle.ivl_places.specs.Edits.{widened}
use Rattle.ivl_places.specs.Neighbours.{IsRunWith}
use Rattle.ivl_paged.proofs.Counting.{err_is_not_ok}
use Rattle.ivl_paged.proofs.Heads.{least_is_kept}
use Rattle.ivl_paged.proofs.Longest.{kept_part, none_longer}
use Rattle.ivl_paged.proofs.Widening.{nothing_to_remove}
use Rattle.ivl_paged.proofs.page.Page.remove_interval.Goals as goal

pub longest_after-self-inside-requires-clause-most : goal.longest_after-self-inside-requires-clause-most
longest_after-self-inside-requires-clause-most g c = none_longer c.self.inside.longest c.args.interval (Covers c.self.inside.set) (Covers c.remove_interval_near.new.self) c.self.invariant.1 c.in_ok-remove_interval_near.ensures.ok.members

pub longest_after-self-inside-requires-clause-kept : goal.longest_after-self-inside-requires-clause-kept
longest_after-self-inside-requires-clause-kept g c = kept_part c.self.inside.longest c.args.interval (Covers c.self.inside.set) (Covers c.remove_interval_near.new.self) c.self.invariant.1 c.in_ok-remove_interval_near.ensures.ok.members

pub returns-in_err-remove_interval_near-clause-in_place : goal.returns-in_err-remove_interval_near-clause-in_place
returns-in_err-remove_interval_near-clause-in_place g c = λ n.
    absurd (err_is_not_ok c.remove_interval_near.result _ c.in_err-remove_interval_near.was
    (c.remove_interval_near.ensures.in_place (subst (λ (L : List (ℤ × ℤ)). ¬ (IsSubset (IsBetween (widened c.args.interval)) (Covers L))) (sym c.self.view_is) n)))

pub returns-then-is_no_member-clause-ok : goal.returns-then-is_no_member-clause-ok
returns-then-is_no_member-clause-ok g c =
    let L : List (ℤ × ℤ) = c.self.inside.set in
    let v = g.B.Width.value c.lower_bound.result in
    let found = subst (λ (M : List (ℤ × ℤ)). MatchOption c.find_run-place.result.1 (¬ (Covers M v)) (IsRunWith v (Covers M))) c.runs.ensures.same c.find_run-place.ensures.run in
    subst (λ (M : List (ℤ × ℤ)). IsRunsOf M (Without (Covers M) (IsBetween c.args.interval))) c.self.view_is
    (nothing_to_remove c.find_run-place.result.1 L c.args.interval v c.runs.ensures.runs.maximal c.lower_bound.ensures found (c.is_no_member.ensures c.if-is_no_member.true))

pub head_after-self-inside-requires-clause-some : goal.head_after-self-inside-requires-clause-some
head_after-self-inside-requires-clause-some g c =
    let (z, s) = c.requires.some in
    (z, (c.in_ok-remove_interval_near.ensures.ok.members z).1 (subst (λ (L : List (ℤ × ℤ)). Without (Covers L) (IsBetween c.args.interval) z) (sym c.self.view_is) s))

pub head_after-self-inside-requires-clause-kept : goal.head_after-self-inside-requires-clause-kept
head_after-self-inside-requires-clause-kept g c = λ lt.
    let low = c.lower_bound-2.ensures in
    least_is_kept (Covers c.self.inside.set) (Covers c.remove_interval_near.new.self) c.args.interval (g.B.Width.value c.self.inside.head) c.self.invariant.0 c.in_ok-remove_interval_near.ensures.ok.members (omega (arith, ints, lt, low))
