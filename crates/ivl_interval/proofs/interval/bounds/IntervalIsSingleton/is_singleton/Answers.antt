use Rattle.ivl_laws.proofs.Orders.{eq_number}
use Rattle.ivl_interval.proofs.Ends.{equal_by_test, only_by_test}
use Rattle.ivl_interval.proofs.interval.bounds.IntervalIsSingleton.is_singleton.Goals as goal

pub returns : goal.returns
returns g c =
    let k = equal_by_test _ _ _ _ c.self.view_is (eq_number g.met.B.Width.ordered _ _ _ c.eq.ensures) in
    record { members = only_by_test _ _ k; bounds = k }
