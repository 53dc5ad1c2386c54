use Rattle.std.proofs.Common.{subst}
use Rattle.ivl_map.specs.Entries.{IsEntryList}
use Rattle.ivl_map.proofs.Kept.{one_value}
use Rattle.ivl_map.proofs.interval_map.IntervalMap.in_order.Goals as goal

pub returns-clause-one_value : goal.returns-clause-one_value
returns-clause-one_value g c = λ z v w.
    let eq = g.V.PartialEq.eq in
    one_value eq g.met.V.Eq.laws c.args.self.now z v w (subst (IsEntryList eq) c.self.view_is c.self.invariant.maximal)
