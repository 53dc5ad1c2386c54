use Rattle.std.proofs.Common.{map, take}
use Rattle.ivl_laws.specs.Sets.{IsBetween, IsSubset}
use Rattle.ivl_laws.specs.Runs.{Covers}
use Rattle.ivl_buffers.proofs.reading.are_inside.Given as goal

abbrev pub invariant-loop-run : goal.invariant-loop-run
invariant-loop-run g l = IsSubset (Covers (map g.R.Pair.pair (take l.run-index l.runs))) (IsBetween g.R.Bound.Width.whole)
