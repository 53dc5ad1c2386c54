use Rattle.std.proofs.Common.{◌≡◌, ◌↔◌, IsTrue, ℕ, suc, ◌-◌, ◌<◌, ℤ, ◌<ℤ◌, length, take, subst, arith}
use Rattle.ivl_laws.proofs.Orders.{lt_number}
use Rattle.ivl_map.specs.Entries.{AllEndBelow}
use Rattle.ivl_map.proofs.Searching.{below_to}
use Rattle.ivl_map.proofs.search.ends_below_from_end.Goals as goal

pub returns-then-lt-clause-below : goal.returns-then-lt-clause-below
returns-then-lt-clause-below g c =
    let v = g.B.Width.value c.args.value in
    let E = c.args.entries.now in
    let some : 0 < length E = c.if-count-gt0.true in
    let is = subst (λ (z : ℤ). IsTrue c.lt.result ↔ (z <ℤ v)) c.upper_bound.ensures (lt_number g.met.B.Width.ordered _ _ _ c.lt.ensures) in
    let last : suc (length E - 1) ≡ length E = omega (arith, some) in
    subst (λ (k : ℕ). AllEndBelow v (take k E)) last (below_to g.V.PartialEq.eq v E (length E - 1) c.index-entries-count.result (omega (arith, some)) (is.0 c.if-lt.true) c.requires)
