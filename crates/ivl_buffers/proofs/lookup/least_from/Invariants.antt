use Rattle.std.proofs.Common.{map, take}
use Rattle.std.specs.Prelude.{option_map}
use Rattle.ivl_laws.specs.Runs.{Covers}
use Rattle.ivl_buffers.specs.Lookup.{IsNextIn}
use Rattle.ivl_buffers.proofs.lookup.least_from.Given as goal

-- the least of the pairs so far
abbrev pub invariant-loop-run : goal.invariant-loop-run
invariant-loop-run g l = IsNextIn (g.R.Bound.Width.value l.fn.v) (Covers (map g.R.Pair.pair (take l.run-index l.runs))) (option_map g.R.Bound.Width.value l.least)
