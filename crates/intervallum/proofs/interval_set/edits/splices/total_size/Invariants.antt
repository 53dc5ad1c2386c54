use Rattle.std.proofs.Common.{◌≡◌, sum_by, take}
use Rattle.ivl_laws.specs.Bounds.{width_of}
use Rattle.intervallum.proofs.interval_set.edits.splices.total_size.Given as goal

-- the sum so far
abbrev pub invariant-loop-run : goal.invariant-loop-run
invariant-loop-run g l = g.B.Output.SizeNumber.size l.total ≡ sum_by width_of (take l.run-index l.runs)
