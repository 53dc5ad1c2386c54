use Rattle.std.proofs.Common.{map, take}
use Rattle.ivl_laws.specs.Runs.{Covers}
use Rattle.ivl_buffers.proofs.reading.contains.Given as goal

abbrev pub invariant-loop-run : goal.invariant-loop-run
invariant-loop-run g l = ¬ (Covers (map g.R.Pair.pair (take l.run-index l.runs)) (g.R.Bound.Width.value l.fn.v))
