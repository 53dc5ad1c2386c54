use Rattle.ivl_laws.specs.Families.{set_at}
use Rattle.ivl_laws.specs.Runs.{Covers}
use Rattle.ivl_expr.proofs.Least.{nodes_are_held, nodes_are_least}
use Rattle.ivl_expr.proofs.laws.node_is_least.Goals as goal

pub returns-clause-holds : goal.returns-clause-holds
returns-clause-holds g c sets = nodes_are_held g.B.Width.value (set_at sets)

pub returns-clause-least : goal.returns-clause-least
returns-clause-least g c sets F = nodes_are_least g.B.Width.value (set_at sets) (λ e. Covers (F e))
