use Rattle.std.proofs.Common.{◌∙◌, ℤ, ◌≤ℤ◌, ◌<ℤ◌, ap, arith, subst}
use Rattle.std.proofs.lemmas.Int.{by_lt_z}
use Rattle.ivl_laws.proofs.Adding.{untrue}
use Rattle.ivl_laws.proofs.Orders.{lt_number}
use Rattle.ivl_within.proofs.within.fronts.begun.Goals as goal

pub result_at-requires-clause-place : goal.result_at-requires-clause-place
result_at-requires-clause-place g c = let i = c.places.invariant in omega (arith, c.places-test.true, i.at_most, c.requires.count)

pub places-preserved : goal.places-preserved
places-preserved g c =
    let v = g.B.Width.value c.args.from in
    let i = c.places.invariant in
    let less = (lt_number g.met.B.Width.ordered _ _ _ c.lt.ensures).0 c.if-lt.true in
    record {
      at_most = omega (arith, i.at_most);
      not_begun = λ _. subst (λ (z : ℤ). v <ℤ z) (c.lower_bound.ensures ∙ ap (λ (r : ℤ × ℤ). r.0) c.result_at.ensures) less;
    }

pub returns-else-lt-clause-begun : goal.returns-else-lt-clause-begun
returns-else-lt-clause-begun g c = λ _.
    let v = g.B.Width.value c.args.from in
    let b = g.B.Width.value c.lower_bound.result in
    let not_less = untrue _ c.if-lt.false (lt_number g.met.B.Width.ordered _ _ _ c.lt.ensures) in
    let at_most : b ≤ℤ v = by_lt_z v b (λ h. absurd (not_less h)) (λ h. h) in
    subst (λ (z : ℤ). z ≤ℤ v) (c.lower_bound.ensures ∙ ap (λ (r : ℤ × ℤ). r.0) c.result_at.ensures) at_most
