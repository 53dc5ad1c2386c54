use Rattle.std.proofs.Common.{◌≡◌, ◌↔◌, [], subst}
use Rattle.std.specs.Prelude.{Any, IsTrue}
use Rattle.ivl_network.specs.Network.{RulesState}
use Rattle.ivl_network.proofs.network.Network.has_empty.Goals as goal

pub returns-clause-empty : goal.returns-clause-empty
returns-clause-empty g c = subst (λ (s : RulesState). IsTrue c.has_empty.result ↔ Any (λ L. L ≡ []) s.domains) c.self.view_is c.has_empty.ensures.empty
