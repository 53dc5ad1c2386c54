use Rattle.std.proofs.Common.{◌<◌, ◌≤◌, ℕ, subst, arith}
use Rattle.ivl_places.proofs.FirstFit.{at_least_by_count, below_by_count, fits_as_all, fits_as_next, fits_here, nothing_fits}
use Rattle.intervallum.proofs.interval_set.first_fit.fit_in.Goals as goal

pub lowest_of-requires-clause-enough : goal.lowest_of-requires-clause-enough
lowest_of-requires-clause-enough g c =
    subst (λ (k : ℕ). g.B.Output.SizeNumber.size c.args.count ≤ k) c.size.ensures.width (at_least_by_count g.met.B.Output.SizeNumber.ordered _ _ _ c.ge.ensures c.if-ge.true)

pub returns-then-ge : goal.returns-then-ge
returns-then-ge g c =
    fits_here (g.B.Output.SizeNumber.size c.args.count) c.args.runs.now c.loop-run.run-index c.run-item.result c.lowest_of.result c.requires.above_zero c.loop-run-test.true c.requires.runs.maximal c.run-item.is
    (subst (λ (k : ℕ). g.B.Output.SizeNumber.size c.args.count ≤ k) c.size.ensures.width (at_least_by_count g.met.B.Output.SizeNumber.ordered _ _ _ c.ge.ensures c.if-ge.true))
    c.lowest_of.ensures c.loop-run.invariant

pub loop-run-init : goal.loop-run-init
loop-run-init g c = fits_as_all _ c.args.runs.now

pub loop-run-preserved : goal.loop-run-preserved
loop-run-preserved g c =
    let less = below_by_count g.met.B.Output.SizeNumber.ordered _ _ _ c.ge.ensures c.if-ge.false in
    fits_as_next (g.B.Output.SizeNumber.size c.args.count) c.args.runs.now c.loop-run.run-index c.run-item.result c.requires.above_zero c.loop-run-test.true c.requires.runs.maximal c.run-item.is
    (subst (λ (k : ℕ). k < g.B.Output.SizeNumber.size c.args.count) c.size.ensures.width less) c.loop-run.invariant

pub returns : goal.returns
returns g c = nothing_fits _ c.args.runs.now c.loop-run.run-index c.requires.above_zero (omega arith) c.loop-run.invariant
