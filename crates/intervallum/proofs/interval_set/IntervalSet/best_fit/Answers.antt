use Rattle.std.proofs.Common.{ℤ, List, sym, subst, arith}
use Rattle.ivl_laws.specs.Runs.{Covers, IsMaximal}
use Rattle.ivl_laws.proofs.Adding.{untrue}
use Rattle.ivl_laws.proofs.Places.{IsMaximal-take}
use Rattle.ivl_places.specs.Fits.{IsBestFit}
use Rattle.ivl_places.specs.FirstFit.{FitsAt}
use Rattle.ivl_places.proofs.Fits.{IsBestOf, IsBetterRun, best_is_fit, best_of_all, best_of_more, best_of_none, better_left, better_taken, none_is_no_fit}
use Rattle.intervallum.proofs.interval_set.IntervalSet.best_fit.Goals.{then-fits_better, else-fits_better}
use Rattle.intervallum.proofs.interval_set.IntervalSet.best_fit.Goals as goal

pub loop-run-init : goal.loop-run-init
loop-run-init g c = best_of_none _ c.as_runs-runs.result.now

pub loop-run-preserved : goal.loop-run-preserved
loop-run-preserved g c =
    let n = g.B.Output.SizeNumber.size c.args.count in
    let m = subst IsMaximal (sym c.as_runs-runs.ensures.same) c.as_runs-runs.ensures.runs.maximal in
    let next : IsBetterRun n c.loop-run.best c.run-item.result c.if-fits_better.best = elim c.if-fits_better.branch [
      | then-fits_better w ↦ better_taken n c.loop-run.best c.run-item.result c.if-fits_better.best (c.fits_better.ensures.0 w.if-fits_better.true) w.best-is
      | else-fits_better w ↦ better_left n c.loop-run.best c.run-item.result c.if-fits_better.best (untrue _ w.if-fits_better.false c.fits_better.ensures) w.best-is
    ] in
    best_of_more n c.as_runs-runs.result.now c.loop-run.run-index c.run-item.result c.loop-run.best c.if-fits_better.best m
    (IsMaximal-take c.as_runs-runs.result.now c.loop-run.run-index m) c.loop-run-test.true c.run-item.is c.loop-run.invariant next

pub returns-in_err-run : goal.returns-in_err-run
returns-in_err-run g c =
    let n = g.B.Output.SizeNumber.size c.args.count in
    let L = c.as_runs-runs.result.now in
    let m = subst IsMaximal (sym c.as_runs-runs.ensures.same) c.as_runs-runs.ensures.runs.maximal in
    let none = subst (IsBestOf n L) c.in_err-run.was (best_of_all n L c.loop-run.run-index c.loop-run.best (omega arith) c.loop-run.invariant) in
    rw c.from_residual.ensures (subst (λ (M : List (ℤ × ℤ)). (v : ℤ) → ¬ (FitsAt n (Covers M) v)) c.as_runs-runs.ensures.same (none_is_no_fit n L c.requires m none))

pub returns : goal.returns
returns g c =
    let n = g.B.Output.SizeNumber.size c.args.count in
    let L = c.as_runs-runs.result.now in
    let m = subst IsMaximal (sym c.as_runs-runs.ensures.same) c.as_runs-runs.ensures.runs.maximal in
    let best = subst (IsBestOf n L) c.in_ok-run.was (best_of_all n L c.loop-run.run-index c.loop-run.best (omega arith) c.loop-run.invariant) in
    subst (λ (M : List (ℤ × ℤ)). IsBestFit n (Covers M) c.lowest_of.result) c.as_runs-runs.ensures.same (best_is_fit n L c.in_ok-run.run' c.lowest_of.result m best c.lowest_of.ensures)
