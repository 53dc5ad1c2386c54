use Rattle.std.proofs.Common.{take}
use Rattle.ivl_laws.specs.Counts.{IsCountOf}
use Rattle.ivl_laws.specs.Sets.{Intersection, IsBetween}
use Rattle.ivl_laws.specs.Runs.{Covers}
use Rattle.intervallum.proofs.interval_set.runs_within.size_of_part.Given as goal

-- what the runs so far have in the window is counted
abbrev pub invariant-loop-run : goal.invariant-loop-run
invariant-loop-run g l = IsCountOf (g.B.Output.SizeNumber.size l.size) (Intersection (Covers (take l.run-index l.runs)) (IsBetween l.fn.window))
