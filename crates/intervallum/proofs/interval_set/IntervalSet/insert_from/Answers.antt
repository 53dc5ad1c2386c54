use Rattle.std.proofs.Common.{inl, inr, refl, None, Some, ℤ, List, subst, sym}
use Rattle.std.proofs.lemmas.Result.{on_ok_weaker}
use Rattle.ivl_laws.specs.Sets.{IsBetween, Union}
use Rattle.ivl_laws.specs.Runs.{Covers, IsRunsOf}
use Rattle.ivl_laws.proofs.Adding.{untrue}
use Rattle.ivl_laws.proofs.Intervals.{not_crossed}
use Rattle.ivl_laws.proofs.Ranges.{IsRunListIn-runs}
use Rattle.ivl_laws.proofs.Runs.{lower_end}
use Rattle.ivl_places.specs.Edits.{replaced, widened}
use Rattle.ivl_places.proofs.Allocating.{some_in_span}
use Rattle.ivl_images.proofs.Sweeping.{adds_nothing}
use Rattle.intervallum.proofs.interval_set.IntervalSet.insert_from.Goals as goal

pub replace-requires-clause-runs : goal.replace-requires-clause-runs
replace-requires-clause-runs g c =
    let P : List (ℤ × ℤ) → Type 0 = λ L. IsRunsOf (replaced L c.touched-start.result.0 c.touched-start.result.1 (Some c.joined-run.result) None) (Union (Covers L) (IsBetween c.args.interval)) in
    IsRunListIn-runs g.B.Width.whole _ (Union (Covers c.args.self.now) (IsBetween c.args.interval)) (subst P c.as_runs-runs.ensures.same c.joined-run.ensures)
    (λ z. elim [ inl w ↦ c.as_runs-runs.ensures.runs.within z w | inr w ↦ c.in_whole.ensures z w ])

pub returns-clause-ok : goal.returns-clause-ok
returns-clause-ok g c =
    let P : List (ℤ × ℤ) → Type 0 = λ L. IsRunsOf (replaced L c.touched-start.result.0 c.touched-start.result.1 (Some c.joined-run.result) None) (Union (Covers L) (IsBetween c.args.interval)) in
    let runs = subst P c.as_runs-runs.ensures.same c.joined-run.ensures in
    on_ok_weaker c.replace.result (λ e. subst (λ (N : List (ℤ × ℤ)). IsRunsOf N (Union (Covers c.args.self.now) (IsBetween c.args.interval))) (sym e) runs) c.replace.ensures.ok

pub touched-start-requires : goal.touched-start-requires
touched-start-requires g c = not_crossed c.args.interval (untrue _ c.if-is_empty.false c.is_empty.ensures.crossed)

pub joined-run-requires-clause-filled : goal.joined-run-requires-clause-filled
joined-run-requires-clause-filled g c = not_crossed c.args.interval (untrue _ c.if-is_empty.false c.is_empty.ensures.crossed)

pub joined-run-requires-clause-span : goal.joined-run-requires-clause-span
joined-run-requires-clause-span g c = rw c.as_runs-runs.ensures.same c.touched-start.ensures

pub replace-requires-clause-in_order : goal.replace-requires-clause-in_order
replace-requires-clause-in_order g c = c.touched-start.ensures.in_order

pub replace-requires-clause-at_most : goal.replace-requires-clause-at_most
replace-requires-clause-at_most g c = c.touched-start.ensures.at_most

pub replace-requires-clause-two : goal.replace-requires-clause-two
replace-requires-clause-two g c = λ run e. absurd (cc)

pub returns-clause-err : goal.returns-clause-err
returns-clause-err g c = c.replace.ensures.err

pub returns-then-is_empty-clause-ok : goal.returns-then-is_empty-clause-ok
returns-then-is_empty-clause-ok g c = adds_nothing c.args.self.now c.args.interval c.as_runs-runs.ensures.runs.maximal (c.is_empty.ensures.crossed.0 c.if-is_empty.true)

pub returns-clause-empty : goal.returns-clause-empty
returns-clause-empty g c = λ none. absurd (none c.args.interval.0 (lower_end c.args.interval (not_crossed c.args.interval (untrue _ c.if-is_empty.false c.is_empty.ensures.crossed))))

pub returns-clause-in_place : goal.returns-clause-in_place
returns-clause-in_place g c = λ some. c.replace.ensures.in_place refl (some_in_span c.args.self.now (widened c.args.interval) c.touched-start.result.0 c.touched-start.result.1 c.as_runs-runs.ensures.runs.maximal c.touched-start.ensures some)
