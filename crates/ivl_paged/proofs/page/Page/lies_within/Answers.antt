use Rattle.std.proofs.Common.{ℤ, List, subst, sym, arith}
use Rattle.std.proofs.lemmas.Int.{ints}
use Rattle.ivl_laws.specs.Runs.{Covers}
use Rattle.ivl_laws.proofs.Orders.{le_number}
use Rattle.ivl_paged.proofs.page.Page.lies_within.Goals as goal

pub returns-then-le-clause-rest : goal.returns-then-le-clause-rest
returns-then-le-clause-rest g c =
    let v : ℤ = g.B.Width.value c.upper.result in
    λ n. (
      v,
      (
        subst (λ (L : List (ℤ × ℤ)). Covers L v) c.self.view_is c.upper.ensures.member,
        λ b. let high = b.1 in let same = c.upper-then-le.ensures.value in n ((le_number g.met.B.Width.ordered _ _ _ c.le-then-le.ensures).1 (omega (arith, ints, high, same))),
      ),
    )

pub returns-then-le-clause-all : goal.returns-then-le-clause-all
returns-then-le-clause-all g c = λ t z s.
    let here : Covers c.self.inside.set z = subst (λ (L : List (ℤ × ℤ)). Covers L z) (sym c.self.view_is) s in
    let low = (le_number g.met.B.Width.ordered _ _ _ c.le.ensures).0 c.if-le.true in
    let high = (le_number g.met.B.Width.ordered _ _ _ c.le-then-le.ensures).0 t in
    let least = c.self.invariant.0.1 z here in
    let greatest = c.upper.ensures.greatest z here in
    let a = c.lower.ensures.value in
    let b = c.upper-then-le.ensures.value in (omega (arith, ints, low, a, least), omega (arith, ints, high, b, greatest))

pub returns-else-le-clause-rest : goal.returns-else-le-clause-rest
returns-else-le-clause-rest g c = λ n. (
  g.B.Width.value c.self.inside.head,
  (
    subst (λ (L : List (ℤ × ℤ)). Covers L (g.B.Width.value c.self.inside.head)) c.self.view_is c.self.invariant.0.0,
    λ b. let low = b.0 in let a = c.lower.ensures.value in n ((le_number g.met.B.Width.ordered _ _ _ c.le.ensures).1 (omega (arith, ints, low, a))),
  ),
)
