use Rattle.std.proofs.Common.{◌≡◌, ◌++◌, length, map, take, drop}
use Rattle.ivl_laws.specs.Runs.{IsMaximal}
use Rattle.ivl_buffers.proofs.writing.write.Given as goal

abbrev pub invariant-loop-i : goal.invariant-loop-i
invariant-loop-i g l = (l.runs ≡ l.set) × IsMaximal l.runs × (length l.out ≡ length l.fn.out)
    × (map g.R.Pair.pair l.out ≡ take l.i l.runs ++ drop l.i (map g.R.Pair.pair l.fn.out))
