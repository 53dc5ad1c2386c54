use Rattle.std.proofs.Common.{take}
use Rattle.ivl_places.proofs.Fits.{IsBestOf}
use Rattle.intervallum.proofs.interval_set.IntervalSet.best_fit.Given as goal

-- the best of the runs so far
abbrev pub invariant-loop-run : goal.invariant-loop-run
invariant-loop-run g l = IsBestOf (g.B.Output.SizeNumber.size l.count) (take l.run-index l.runs) l.best
