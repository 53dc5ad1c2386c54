use Rattle.std.proofs.Common.{◌≡◌, map, take}
use Rattle.ivl_interval.specs.SameInterval.{normal_pair}
use Rattle.ivl_buffers.proofs.reading.set_of.Given as goal

abbrev pub invariant-loop-run : goal.invariant-loop-run
invariant-loop-run g l = l.list.items ≡ map (λ r. normal_pair (g.R.Pair.pair r)) (take l.run-index l.runs)
