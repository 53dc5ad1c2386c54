use Rattle.ivl_laws.specs.Bounds.{width_of}
use Rattle.ivl_laws.specs.Runs.{Covers}
use Rattle.ivl_within.specs.Fronts.{IsFront}
use Rattle.ivl_within.specs.Within.{SumsBy}
use Rattle.ivl_within.proofs.within.fronts.stretch.Given as goal

abbrev pub invariant-fronts : goal.invariant-fronts
invariant-fronts g l = IsFront (SumsBy l.op (Covers l.a) (Covers l.b)) (g.B.Width.value l.from) l.front.is_met (g.B.Width.value l.front.reach) (g.B.Width.value l.front.next)

abbrev pub decreases-fronts : goal.decreases-fronts
decreases-fronts g l = width_of (g.B.Width.value l.front.reach, g.B.Width.value l.to)
