use Rattle.ivl_laws.proofs.Orders.{max_number, min_number}
use Rattle.ivl_interval.proofs.Pairs.{common_pair}
use Rattle.ivl_interval.proofs.interval.sets.IntervalIntersection.intersection.Goals as goal

pub returns : goal.returns
returns g c =
    common_pair _ _ _ _ _ _ _ _ c.self.view_is c.other.view_is
    (max_number g.met.B.Width.ordered _ _ _ c.max.ensures)
    (min_number g.met.B.Width.ordered _ _ _ c.min.ensures)
