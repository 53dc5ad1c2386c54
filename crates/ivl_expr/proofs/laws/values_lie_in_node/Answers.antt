use Rattle.ivl_laws.specs.Families.{set_at}
use Rattle.ivl_expr.proofs.Meanings.{values_in_node}
use Rattle.ivl_expr.proofs.laws.values_lie_in_node.Goals as goal

pub returns : goal.returns
returns g c sets = values_in_node g.B.Width.value c.args.expr.now (set_at sets)
