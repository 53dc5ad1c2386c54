-- Examples of the values of expressions over whole numbers, where a constant stands for itself. `negsuc 1` is -2.
use Rattle.std.proofs.Common.{◌≡◌, inl, inr, ℕ, zero, suc, ◌+◌, ◌<◌, ℤ, pos, negsuc, ◌*ℤ◌, List, [], ◌∷◌, refl, subst, arith, cond, eqb}
use Rattle.std.proofs.lemmas.Bool.Decides.{nat_tests}
use Rattle.std.proofs.lemmas.Int.{ints}
use Rattle.ivl_laws.specs.Families.{set_at}
use Rattle.ivl_expr.specs.declared.expr.Expr.TheVariants.{Var, Const, Add', Sub', Mul'}
use Rattle.ivl_expr.specs.Values.{value_at, Values}
use Rattle.ivl_expr.specs.Variables.{Occurs}

abbrev itself : ℤ → ℤ
itself c = c

-- variable 0 is worth 3, any other 5
abbrev point : ℕ → ℤ
point i = cond (eqb i 0) (pos 3) (pos 5)

-- {[3..3]} and {[4..5]}
abbrev sets : List (List (ℤ × ℤ))
sets = ((pos 3, pos 3) ∷ []) ∷ ((pos 4, pos 5) ∷ []) ∷ []

-- ---- value_at

a_difference_at_a_point : (p q : _) → value_at itself (Sub' p (Var 0) q (Var 1)) point ≡ negsuc 1
a_difference_at_a_point p q = refl

a_product_at_a_point : (p q : _) → value_at itself (Mul' p (Var 0) q (Var 1)) point ≡ pos 15
a_product_at_a_point p q = refl

a_sum_with_a_constant_at_a_point : (p q : _) → value_at itself (Add' p (Var 1) q (Const (pos 4))) point ≡ pos 9
a_sum_with_a_constant_at_a_point p q = refl

-- ---- Values

fifteen_is_a_product : (p q : _) → Values itself (Mul' p (Var 0) q (Var 1)) (set_at sets) (pos 15)
fifteen_is_a_product p q = record { point = point; within = within p q; value = refl }
  where
    within : (p q : _) (i : ℕ) → Occurs {B = ℤ} i (Mul' p (Var 0) q (Var 1)) → set_at sets i (point i)
    within p q zero o = inl (omega (arith, ints), omega (arith, ints))
    within p q (suc zero) o = inl (omega (arith, ints), omega (arith, ints))
    within p q (suc (suc i)) o = absurd (no_other i o)
      where
        no_other : (i : ℕ) → 0 < (cond (eqb 0 (suc (suc i))) 1 0 + cond (eqb 1 (suc (suc i))) 1 0) → ⊥
        no_other i o = grind (arith, nat_tests)

-- 13 lies between 3 * 4 and 3 * 5, and is neither
thirteen_is_no_product : (p q : _) → ¬ (Values itself (Mul' p (Var 0) q (Var 1)) (set_at sets) (pos 13))
thirteen_is_no_product p q v =
    let three : v.point 0 ≡ pos 3 = of_first (v.point 0) (v.within 0 (omega arith)) in
    let tripled : pos 3 *ℤ v.point 1 ≡ pos 13 = subst (λ (x : ℤ). x *ℤ v.point 1 ≡ pos 13) three v.value in
    omega (arith, ints)
  where
    of_first : (x : ℤ) → set_at sets 0 x → x ≡ pos 3
    of_first x (inl (low, high)) = omega (arith, ints)
    of_first x (inr n) = absurd n

-- the set of a variable that does not occur may be empty, or missing
a_constant_has_its_value : Values itself (Const (pos 4)) (set_at []) (pos 4)
a_constant_has_its_value = record { point = point; within = (λ i o. absurd (omega arith)); value = refl }
