use Rattle.std.proofs.Common.{ℤ, ◌-◌, [], ◌∷◌, Option, subst, arith}
use Rattle.ivl_laws.specs.Sets.{Above, Below, IsBetween}
use Rattle.ivl_laws.specs.Runs.{IsRunsOf}
use Rattle.ivl_laws.proofs.SetLaws.{IsRunsOf-same}
use Rattle.ivl_walks.specs.HeldRun.{led_by}
use Rattle.ivl_places.proofs.Allocating.{around_split}
use Rattle.ivl_places.proofs.Splicing.{left_without}
use Rattle.intervallum.proofs.interval_set.edits.spans.rests.Goals as goal

pub returns-clause-rest : goal.returns-clause-rest
returns-clause-rest g c =
    let W = c.args.interval in
    let L = c.args.runs.now in
    let first = c.index-runs-start in
    let last = c.index-runs-end in
    let some = c.requires.some in
    let below = IsRunsOf-same _ _ (led_by c.if_filled.result []) c.strict_shrink_right-below.ensures c.if_filled.ensures in
    let above = IsRunsOf-same _ _ (led_by c.if_filled-2.result []) c.strict_shrink_left-above.ensures c.if_filled-2.ensures in
    let P : ℤ × ℤ → Type 0 = λ p. IsRunsOf (led_by c.if_filled.result []) (Below W.0 (IsBetween p)) in
    let Q : ℤ × ℤ → Type 0 = λ p. IsRunsOf (led_by c.if_filled-2.result []) (Above W.1 (IsBetween p)) in
    left_without L W c.args.start c.args.end (c.args.end - 1) first.result last.result c.if_filled.result c.if_filled-2.result c.requires.maximal c.requires.filled c.requires.span some (omega (arith, some))
    (subst P first.is (subst (λ (v : ℤ). IsRunsOf (led_by c.if_filled.result []) (Below v (IsBetween first.result))) c.lower.ensures.value below))
    (subst Q last.is (subst (λ (v : ℤ). IsRunsOf (led_by c.if_filled-2.result []) (Above v (IsBetween last.result))) c.upper.ensures.value above))

pub returns-clause-split : goal.returns-clause-split
returns-clause-split g c = λ p q one is_below is_above.
    let W = c.args.interval in
    let L = c.args.runs.now in
    let first = c.index-runs-start in
    let last = c.index-runs-end in
    let some = c.requires.some in
    let most = c.requires.span.at_most in
    let below = IsRunsOf-same _ _ (led_by c.if_filled.result []) c.strict_shrink_right-below.ensures c.if_filled.ensures in
    let above = IsRunsOf-same _ _ (led_by c.if_filled-2.result []) c.strict_shrink_left-above.ensures c.if_filled-2.ensures in
    let P : ℤ × ℤ → Type 0 = λ r. IsRunsOf (p ∷ []) (Below W.0 (IsBetween r)) in
    let Q : ℤ × ℤ → Type 0 = λ r. IsRunsOf (q ∷ []) (Above W.1 (IsBetween r)) in
    let R : Option (ℤ × ℤ) → Type 0 = λ o. IsRunsOf (led_by o []) (Below W.0 (IsBetween first.result)) in
    let S : Option (ℤ × ℤ) → Type 0 = λ o. IsRunsOf (led_by o []) (Above W.1 (IsBetween last.result)) in
    around_split L W p q c.args.start (c.args.end - 1) first.result last.result (omega (arith, some, most)) (omega (arith, one))
    (subst P first.is (subst R is_below (subst (λ (v : ℤ). IsRunsOf (led_by c.if_filled.result []) (Below v (IsBetween first.result))) c.lower.ensures.value below)))
    (subst Q last.is (subst S is_above (subst (λ (v : ℤ). IsRunsOf (led_by c.if_filled-2.result []) (Above v (IsBetween last.result))) c.upper.ensures.value above)))
