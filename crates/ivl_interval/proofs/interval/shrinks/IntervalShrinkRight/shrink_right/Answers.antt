use Rattle.ivl_laws.proofs.Orders.{min_number}
use Rattle.ivl_interval.proofs.Ends.{at_most_by_min, min_at_most}
use Rattle.ivl_interval.proofs.interval.shrinks.IntervalShrinkRight.shrink_right.Goals as goal

pub new-requires : goal.new-requires
new-requires g c = (c.self.invariant.0.0, min_at_most _ _ _ _ c.self.invariant.0.1 (min_number g.met.B.Width.ordered _ _ _ c.min.ensures))

pub returns : goal.returns
returns g c = at_most_by_min _ _ _ _ _ _ c.self.view_is c.new.ensures.value (min_number g.met.B.Width.ordered _ _ _ c.min.ensures)
