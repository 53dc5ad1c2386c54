use Rattle.ivl_laws.proofs.Orders.{max_number}
use Rattle.ivl_interval.proofs.Ends.{at_least_by_max, max_at_least}
use Rattle.ivl_interval.proofs.interval.shrinks.IntervalShrinkLeft.shrink_left.Goals as goal

pub new-requires : goal.new-requires
new-requires g c = (max_at_least _ _ _ _ c.self.invariant.0.0 (max_number g.met.B.Width.ordered _ _ _ c.max.ensures), c.self.invariant.0.1)

pub returns : goal.returns
returns g c = at_least_by_max _ _ _ _ _ _ c.self.view_is c.new.ensures.value (max_number g.met.B.Width.ordered _ _ _ c.max.ensures)
