use Rattle.std.proofs.Common.{take}
use Rattle.ivl_map.proofs.Numbers.{IsCounted}
use Rattle.ivl_map.proofs.interval_map.numbers.size_of.Given as goal

abbrev pub invariant-loop-entry : goal.invariant-loop-entry
invariant-loop-entry g l = IsCounted g.B.Width.whole (take l.entry-index l.entries) (g.B.Output.SizeNumber.size l.size)
