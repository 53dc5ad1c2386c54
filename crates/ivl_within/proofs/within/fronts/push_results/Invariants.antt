use Rattle.ivl_laws.specs.Bounds.{width_of}
use Rattle.ivl_laws.specs.Runs.{Covers}
use Rattle.ivl_within.specs.Within.{SumsBy}
use Rattle.ivl_within.proofs.Stretches.{IsAddedBelow}
use Rattle.ivl_within.proofs.within.fronts.push_results.Given as goal

abbrev pub invariant-fronts : goal.invariant-fronts
invariant-fronts g l = IsAddedBelow (SumsBy l.op (Covers l.a) (Covers l.b)) l.fn.run l.fn.entries.items l.entries.items (g.B.Width.value l.from)

abbrev pub decreases-fronts : goal.decreases-fronts
decreases-fronts g l = width_of (g.B.Width.value l.from, g.B.Width.value l.to)
