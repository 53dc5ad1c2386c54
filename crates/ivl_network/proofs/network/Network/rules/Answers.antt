use Rattle.std.proofs.Common.{◌≡◌, ◌≤◌, arith, length, subst}
use Rattle.std.specs.Prelude.{not}
use Rattle.std.proofs.lemmas.List.Sums.{count_by-le-length}
use Rattle.ivl_network.specs.Network.{RulesState}
use Rattle.ivl_network.specs.Queue.{unsettled_count}
use Rattle.ivl_network.proofs.network.Network.rules.Goals as goal

pub returns-clause-one_each : goal.returns-clause-one_each
returns-clause-one_each g c = subst (λ (s : RulesState). length s.settled ≡ length s.rules) c.self.view_is c.self.invariant.0.settled.one_each

pub returns-clause-unsettled : goal.returns-clause-unsettled
returns-clause-unsettled g c =
    subst (λ (s : RulesState). unsettled_count s.settled ≤ length s.rules) c.self.view_is
    (let n = count_by-le-length not c.self.inside.queue.settled.items in let e = c.self.invariant.0.settled.one_each in omega (arith, n, e))
