use Rattle.ivl_places.proofs.FirstFit.{FitsAsRest}
use Rattle.intervallum.proofs.interval_set.first_fit.fit_in.Given as goal

-- what fits in the runs that are left is what fits in all
abbrev pub invariant-loop-run : goal.invariant-loop-run
invariant-loop-run g l = FitsAsRest (g.B.Output.SizeNumber.size l.count) l.runs l.run-index
