use Rattle.ivl_laws.proofs.Orders.{ge_number, le_number}
use Rattle.ivl_interval.proofs.Ends.{in_range_by_lower, in_range_by_upper}
use Rattle.ivl_interval.proofs.interval.Interval.in_range.Goals as goal

pub returns-then-ge : goal.returns-then-ge
returns-then-ge g c =
    in_range_by_upper _ _ _ _ _ _ _ c.min_value.ensures c.max_value.ensures c.if-ge.true
    (ge_number g.met.B.Width.ordered _ _ _ c.ge.ensures) (le_number g.met.B.Width.ordered _ _ _ c.le.ensures)

pub returns-else-ge : goal.returns-else-ge
returns-else-ge g c = in_range_by_lower _ _ _ _ _ c.min_value.ensures c.if-ge.false (ge_number g.met.B.Width.ordered _ _ _ c.ge.ensures)
