use Rattle.std.proofs.Common.{◌↔◌, IsTrue, map, drop}
use Rattle.ivl_buffers.specs.Links.{AreLinked}
use Rattle.ivl_buffers.proofs.run_lists.are_linked_in_turn.Given as goal

-- whether all so far are linked, and those that are left, decides of the whole list
abbrev pub invariant-loop-i : goal.invariant-loop-i
invariant-loop-i g l = (IsTrue l.are_all × AreLinked g.R.Bound.Width.whole (map g.R.Pair.pair (drop l.i l.runs)))
    ↔ AreLinked g.R.Bound.Width.whole (map g.R.Pair.pair l.runs)
