use Rattle.std.proofs.Common.{take}
use Rattle.ivl_map.proofs.Kept.{AreCopies}
use Rattle.ivl_map.proofs.interval_map.making.copies_of.Given as goal

abbrev pub invariant-loop-entry : goal.invariant-loop-entry
invariant-loop-entry g l = AreCopies g.V.PartialEq.eq (take l.entry-index l.entries) l.made.items
