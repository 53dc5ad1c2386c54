use Rattle.std.proofs.Common.{◌∙◌, ◌-◌, ◌+◌, ◌↔◌, ◌≤◌, ◌≤ℤ◌, ℤ, IsTrue, ap, length, subst, arith}
use Rattle.ivl_laws.proofs.Orders.{le_number}
use Rattle.ivl_paged.proofs.PageSearch.{chosen_is_less, up_to_all, up_to_goes}
use Rattle.ivl_paged.proofs.page_search.row_up_to.Goals as goal

pub rows-preserved : goal.rows-preserved
rows-preserved g c =
    let v = g.B.Width.value c.args.value in
    let run = c.index-runs-next in
    let t = c.le-is_up_to.result in
    let next = c.min-next.result in
    let is = subst (λ (z : ℤ). IsTrue t ↔ (z ≤ℤ v)) (c.lower_bound.ensures ∙ ap (λ (p : ℤ × ℤ). p.0) run.is) (le_number g.met.B.Width.ordered _ _ _ c.le-is_up_to.ensures) in
    let most = c.rows.invariant.1 in
    let same = c.rows.invariant.3 in
    let up : next ≤ c.rows.next + 16 = omega arith in
    let last : next ≤ length c.args.runs.now - 16 = omega arith in (
      up_to_goes v c.args.runs.now c.requires.maximal c.rows.first 16 (c.rows.next + 16) c.rows.invariant.0 next next c.select_unpredictable-first.result (next + 16) run.result t
          up (omega (arith, last, same)) is (omega arith) (omega arith) c.select_unpredictable-first.ensures,
      chosen_is_less t next c.rows.first (length c.args.runs.now - 16) c.select_unpredictable-first.result c.select_unpredictable-first.ensures last most,
      last,
      same,
    )

pub returns-clause-above : goal.returns-clause-above
returns-clause-above g c =
    let past = c.rows-test.false in
    let same = c.rows.invariant.3 in
    up_to_all (g.B.Width.value c.args.value) c.args.runs.now c.requires.maximal c.rows.first 16 (c.rows.next + 16) c.rows.invariant.0 (omega (arith, past, same))
