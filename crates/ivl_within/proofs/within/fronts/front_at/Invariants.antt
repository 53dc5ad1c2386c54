use Rattle.ivl_within.proofs.Fronts.{IsFrontAfter}
use Rattle.ivl_within.proofs.within.fronts.front_at.Given as goal

abbrev pub invariant-loop-run : goal.invariant-loop-run
invariant-loop-run g l = IsFrontAfter l.op g.B.Width.whole l.a l.b (g.B.Width.value l.from) l.run-index l.count l.front.is_met (g.B.Width.value l.front.reach) (g.B.Width.value l.front.next)
