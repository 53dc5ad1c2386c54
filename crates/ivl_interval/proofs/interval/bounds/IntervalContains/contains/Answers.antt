use Rattle.ivl_laws.proofs.Orders.{le_number}
use Rattle.ivl_interval.proofs.Ends.{between_by_lower, between_by_upper}
use Rattle.ivl_interval.proofs.interval.bounds.IntervalContains.contains.Goals as goal

pub returns-then-le : goal.returns-then-le
returns-then-le g c =
    between_by_upper _ _ _ _ _ _ c.self.view_is c.if-le.true
    (le_number g.met.B.Width.ordered _ _ _ c.le.ensures) (le_number g.met.B.Width.ordered _ _ _ c.le-then-le.ensures)

pub returns-else-le : goal.returns-else-le
returns-else-le g c = between_by_lower _ _ _ _ _ c.self.view_is c.if-le.false (le_number g.met.B.Width.ordered _ _ _ c.le.ensures)
