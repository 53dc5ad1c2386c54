use Rattle.ivl_laws.proofs.Orders.{not_le_number}
use Rattle.std.proofs.Common.{ℤ, subst}
use Rattle.std.specs.Prelude.{◌<ℤ◌}
use Rattle.ivl_paged.proofs.Walking.{one_passed}
use Rattle.ivl_paged.proofs.paged_set.walks.next_to.Goals as goal

pub runs-preserved : goal.runs-preserved
runs-preserved g c =
    one_passed (g.B.Width.value c.args.value) c.args.left.now c.runs.left c.next.new.self c.in-Some.run' c.runs.invariant c.in-Some.ensures.steps
    (subst (λ (u : ℤ). u <ℤ g.B.Width.value c.args.value) c.upper_bound.ensures (not_le_number g.met.B.Width.ordered _ _ _ c.le.ensures c.if-le.false))
