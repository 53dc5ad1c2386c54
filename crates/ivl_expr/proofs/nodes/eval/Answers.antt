use Rattle.std.proofs.Common.{◌∙◌, sym, subst, length, All}
use Rattle.ivl_laws.specs.Families.{set_at}
use Rattle.ivl_laws.specs.Runs.{Covers, IsRunsOf}
use Rattle.ivl_laws.proofs.SetLaws.{IsRunsOf-same}
use Rattle.ivl_expr.specs.Nodes.{Node}
use Rattle.ivl_expr.specs.Values.{Values}
use Rattle.ivl_expr.proofs.Meanings.{node_is_values, values_in_node}
use Rattle.ivl_expr.proofs.Pairs.{all_present}
use Rattle.ivl_expr.proofs.nodes.eval.Goals as goal

pub node_set-requires : goal.node_set-requires
node_set-requires g c = all_present (length c.args.sets.now) c.args.expr.now (sym c.first_missing.ensures ∙ c.in_default.is)

pub returns-clause-values : goal.returns-clause-values
returns-clause-values g c = λ z v. subst (λ l. Covers l z) (sym c.in_ok-into_set.ensures)
    ((c.in_ok-node_set.ensures.is.members.members z).1 (values_in_node g.B.Width.value c.args.expr.now (set_at c.args.sets.now) z v))

pub returns-clause-ends : goal.returns-clause-ends
returns-clause-ends g c = λ once. subst (λ l. All (λ run. Values g.B.Width.value c.args.expr.now (set_at c.args.sets.now) run.0 × Values g.B.Width.value c.args.expr.now (set_at c.args.sets.now) run.1) l)
    (sym c.in_ok-into_set.ensures) (c.in_ok-node_set.ensures.is.ends once)

pub returns-clause-exact : goal.returns-clause-exact
returns-clause-exact g c = λ once none. subst (λ l. IsRunsOf l (Values g.B.Width.value c.args.expr.now (set_at c.args.sets.now))) (sym c.in_ok-into_set.ensures)
    (IsRunsOf-same (Node g.B.Width.value c.args.expr.now (set_at c.args.sets.now)) (Values g.B.Width.value c.args.expr.now (set_at c.args.sets.now)) _
    (node_is_values g.B.Width.value c.args.expr.now (set_at c.args.sets.now) once none) c.in_ok-node_set.ensures.is.members)
