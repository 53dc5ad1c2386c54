use Rattle.std.proofs.Common.{◌∙◌, ◌↔◌, ◌≤ℤ◌, ◌+◌, ℤ, IsTrue, ap, subst, arith}
use Rattle.ivl_laws.proofs.Orders.{le_number}
use Rattle.ivl_paged.proofs.PageSearch.{chosen_is_less, up_to_goes}
use Rattle.ivl_paged.proofs.page_search.count_up_to.Goals as goal

pub loop-i-preserved : goal.loop-i-preserved
loop-i-preserved g c =
    let v = g.B.Width.value c.args.value in
    let run = c.index-runs-i in
    let t = c.le-is_up_to.result in
    let is = subst (λ (z : ℤ). IsTrue t ↔ (z ≤ℤ v)) (c.lower_bound.ensures ∙ ap (λ (p : ℤ × ℤ). p.0) run.is) (le_number g.met.B.Width.ordered _ _ _ c.le-is_up_to.ensures) in
    let most = c.loop-i.invariant.1 in (
      up_to_goes v c.args.runs.now c.requires c.loop-i.count 0 c.loop-i.i c.loop-i.invariant.0 c.loop-i.i (c.loop-i.i + 1) c.select_unpredictable-count.result (c.loop-i.i + 1) run.result t
          (omega arith) c.loop-i-test.true is (omega arith) (omega arith) c.select_unpredictable-count.ensures,
      chosen_is_less t (c.loop-i.i + 1) c.loop-i.count (c.loop-i.i + 1) c.select_unpredictable-count.result c.select_unpredictable-count.ensures (omega arith) (omega (arith, most)),
    )
