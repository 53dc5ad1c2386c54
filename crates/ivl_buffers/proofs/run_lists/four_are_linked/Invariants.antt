use Rattle.std.proofs.Common.{◌↔◌, IsTrue, map, drop}
use Rattle.ivl_buffers.specs.Links.{AreLinked}
use Rattle.ivl_buffers.proofs.run_lists.four_are_linked.Given as goal

-- whether all so far are linked, and those that are left, decides of the whole parts
abbrev pub invariant-loop-i : goal.invariant-loop-i
invariant-loop-i g l =
    let whole = g.R.Bound.Width.whole in
    let pair = g.R.Pair.pair in
    (IsTrue l.are_all × (AreLinked whole (map pair (drop l.i l.first)) × AreLinked whole (map pair (drop l.i l.more))
    × AreLinked whole (map pair (drop l.i l.others)) × AreLinked whole (map pair (drop l.i l.rest))))
    ↔ (AreLinked whole (map pair l.first) × AreLinked whole (map pair l.more) × AreLinked whole (map pair l.others) × AreLinked whole (map pair l.rest))
