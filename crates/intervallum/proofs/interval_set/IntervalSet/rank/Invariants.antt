use Rattle.std.proofs.Common.{take}
use Rattle.ivl_laws.specs.Counts.{IsCountOf}
use Rattle.ivl_laws.specs.Sets.{Below}
use Rattle.ivl_laws.specs.Runs.{Covers}
use Rattle.intervallum.proofs.interval_set.IntervalSet.rank.Given as goal

-- the members of the runs so far are counted
abbrev pub invariant-loop-run : goal.invariant-loop-run
invariant-loop-run g l = IsCountOf (g.B.Output.SizeNumber.size l.count) (Below (g.B.Width.value l.v) (Covers (take l.run-index l.runs)))
