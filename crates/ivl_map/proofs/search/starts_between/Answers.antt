use Rattle.std.proofs.Common.{◌↔◌, IsTrue, ◌-◌, ◌/◌, ◌<◌, ◌≤ℤ◌, ℤ, subst, arith}
use Rattle.ivl_laws.proofs.Orders.{le_number}
use Rattle.ivl_map.proofs.Searching.{starts_narrowed}
use Rattle.ivl_map.proofs.search.starts_between.Goals as goal

pub search-preserved : goal.search-preserved
search-preserved g c =
    let v = g.B.Width.value c.args.value in
    let inv = c.search.invariant in
    let some : 0 < c.search.left = c.search-test.true in
    let half = c.search.left - c.search.left / 2 in
    let is = subst (λ (z : ℤ). IsTrue c.le-is_up_to.result ↔ (z ≤ℤ v)) c.lower_bound.ensures (le_number g.met.B.Width.ordered _ _ _ c.le-is_up_to.ensures) in
    let on = starts_narrowed g.V.PartialEq.eq v c.args.entries.now c.search.low half c.search.left c.select_unpredictable-low.result c.index-entries-last.result c.le-is_up_to.result (omega (arith, some)) (omega (arith, some)) inv.0
    c.requires.entries is inv.1 inv.2 c.select_unpredictable-low.ensures in
    (on.1, on.2, on.3, omega (arith, on.0, inv.3))
