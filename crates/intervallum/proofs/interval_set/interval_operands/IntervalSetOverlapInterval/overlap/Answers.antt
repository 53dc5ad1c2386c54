use Rattle.ivl_laws.specs.Runs.{Covers}
use Rattle.ivl_laws.proofs.Orders.{le_number}
use Rattle.ivl_places.proofs.IntervalOperands.{overlaps_by_least}
use Rattle.intervallum.proofs.interval_set.interval_operands.IntervalSetOverlapInterval.overlap.Goals as goal

pub returns-in-Some : goal.returns-in-Some
returns-in-Some g c =
    overlaps_by_least (Covers c.args.self.now) c.args.other.now _ _ _ c.le.result c.in-Some.ensures c.lower.ensures.value c.upper.ensures.value (le_number g.met.B.Width.ordered _ _ _ c.le.ensures)

pub lower-requires : goal.lower-requires
lower-requires g c = c.is_empty.ensures.filled (λ e. cc)

pub upper-requires : goal.upper-requires
upper-requires g c = (_, c.lower.ensures.member)
