use Rattle.std.proofs.Common.{◌+◌, ◌-◌, length}
use Rattle.ivl_map.proofs.Overlaps.{IsWalked}
use Rattle.ivl_map.proofs.walks.parts_of.Given as goal

abbrev pub invariant-walk : goal.invariant-walk
invariant-walk g l = IsWalked g.V.PartialEq.eq l.entries l.runs l.i l.j l.made.items

abbrev pub decreases-walk : goal.decreases-walk
decreases-walk g l = (length l.entries - l.i) + (length l.runs - l.j)
