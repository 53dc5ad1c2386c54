use Rattle.ivl_laws.specs.Families.{set_at}
use Rattle.ivl_expr.proofs.Meanings.{node_is_values}
use Rattle.ivl_expr.proofs.laws.node_is_exact.Goals as goal

pub returns : goal.returns
returns g c sets = node_is_values g.B.Width.value c.args.expr.now (set_at sets)
