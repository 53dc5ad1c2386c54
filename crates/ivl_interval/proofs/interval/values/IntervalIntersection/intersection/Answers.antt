use Rattle.ivl_laws.proofs.Orders.{max_number, min_number}
use Rattle.ivl_interval.proofs.Ends.{max_at_least, min_at_most}
use Rattle.ivl_interval.proofs.Pairs.{common_with_value}
use Rattle.ivl_interval.proofs.interval.values.IntervalIntersection.intersection.Goals as goal

pub new-requires : goal.new-requires
new-requires g c = (
  max_at_least _ _ _ _ c.self.invariant.0.0 (max_number g.met.B.Width.ordered _ _ _ c.max.ensures),
  min_at_most _ _ _ _ c.self.invariant.0.1 (min_number g.met.B.Width.ordered _ _ _ c.min.ensures),
)

pub returns : goal.returns
returns g c =
    common_with_value _ _ _ _ _ _ _ c.self.view_is c.new.ensures.value
    (max_number g.met.B.Width.ordered _ _ _ c.max.ensures)
    (min_number g.met.B.Width.ordered _ _ _ c.min.ensures)
