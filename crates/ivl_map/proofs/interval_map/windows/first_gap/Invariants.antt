use Rattle.ivl_map.proofs.Gaps.{IsLeft}
use Rattle.ivl_map.proofs.interval_map.windows.first_gap.Given as goal

abbrev pub invariant-loop-entry : goal.invariant-loop-entry
invariant-loop-entry g l = IsLeft g.V.PartialEq.eq (g.B.Output.SizeNumber.size l.count) l.entries l.fn.window l.rest l.entry-index
