use Rattle.std.proofs.Common.{◌≡◌, ◌++◌, take}
use Rattle.ivl_search.proofs.search.setup.add_variables.Given as goal

abbrev pub invariant-loop-domain : goal.invariant-loop-domain
invariant-loop-domain g l = (l.network.domains ≡ l.fn.network.domains ++ take l.domain-index l.domains) × (l.network.rules ≡ l.fn.network.rules) × (l.network.marked ≡ l.fn.network.marked)
