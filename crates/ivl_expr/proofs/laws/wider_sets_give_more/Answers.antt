use Rattle.ivl_laws.specs.Families.{set_at}
use Rattle.ivl_expr.proofs.Meanings.{nodes_are_monotone}
use Rattle.ivl_expr.proofs.laws.wider_sets_give_more.Goals as goal

pub returns-clause-nodes : goal.returns-clause-nodes
returns-clause-nodes g c sets wider = nodes_are_monotone g.B.Width.value (set_at sets) (set_at wider) c.args.expr.now

pub returns-clause-answers : goal.returns-clause-answers
returns-clause-answers g c sets wider L M h l m z covered =
    (m.members z).1 (nodes_are_monotone g.B.Width.value (set_at sets) (set_at wider) c.args.expr.now h z ((l.members z).0 covered))
