use Rattle.ivl_laws.proofs.Orders.{gt_number}
use Rattle.ivl_interval.proofs.Ends.{crossed_by_test, empty_by_test, filled_by_test}
use Rattle.ivl_interval.proofs.interval.bounds.IntervalIsEmpty.is_empty.Goals as goal

pub returns : goal.returns
returns g c =
    let k = crossed_by_test _ _ _ _ c.self.view_is (gt_number g.met.B.Width.ordered _ _ _ c.gt.ensures) in
    record { members = empty_by_test _ _ k; filled = filled_by_test _ _ k; crossed = k }
