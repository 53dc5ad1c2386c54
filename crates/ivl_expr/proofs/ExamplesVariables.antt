-- Examples of the variables and products of expressions. p and q are where operands stand in memory.
use Rattle.std.proofs.Common.{◌≡◌, ℕ, [], ◌∷◌, Some, None, refl, arith}
use Rattle.std.proofs.lemmas.Bool.Decides.{nat_tests}
use Rattle.ivl_expr.specs.declared.expr.Expr.TheVariants.{Var, Const, Add', Sub', Mul'}
use Rattle.ivl_expr.specs.Variables.{variables, first_missing, occurrences, Occurs, ReadOnce, ShareVariable, products, HasProduct, NoProduct}

-- ---- variables

variables_in_reading_order : (p q r s : _) → variables {B = ℕ} (Sub' p (Add' r (Var 4) s (Var 0)) q (Var 4)) ≡ 4 ∷ 0 ∷ 4 ∷ []
variables_in_reading_order p q r s = refl

constants_have_no_variable : (p q : _) → variables {B = ℕ} (Mul' p (Const 5) q (Const 0)) ≡ []
constants_have_no_variable p q = refl

constants_are_passed_over : (p q : _) → variables {B = ℕ} (Mul' p (Const 5) q (Var 2)) ≡ 2 ∷ []
constants_are_passed_over p q = refl

-- ---- first_missing

four_is_the_leftmost_of_two : (p q : _) → first_missing {B = ℕ} 0 (Add' p (Var 4) q (Var 3)) ≡ Some 4
four_is_the_leftmost_of_two p q = refl

two_is_missing_on_the_right : (p q : _) → first_missing {B = ℕ} 2 (Add' p (Var 0) q (Var 2)) ≡ Some 2
two_is_missing_on_the_right p q = refl

none_is_missing_below_the_count : (p q : _) → first_missing {B = ℕ} 2 (Add' p (Var 0) q (Var 1)) ≡ None
none_is_missing_below_the_count p q = refl

-- ---- occurrences, Occurs

twice_in_its_square : (p q : _) → occurrences {B = ℕ} 1 (Mul' p (Var 1) q (Var 1)) ≡ 2
twice_in_its_square p q = refl

once_beside_another : (p q : _) → occurrences {B = ℕ} 1 (Sub' p (Var 1) q (Var 0)) ≡ 1
once_beside_another p q = refl

never_in_a_constant_of_that_number : occurrences {B = ℕ} 1 (Const 1) ≡ 0
never_in_a_constant_of_that_number = refl

a_variable_occurs_on_the_right : (p q : _) → Occurs {B = ℕ} 1 (Sub' p (Var 0) q (Var 1))
a_variable_occurs_on_the_right p q = omega arith

a_variable_occurs_in_itself : Occurs {B = ℕ} 7 (Var 7)
a_variable_occurs_in_itself = omega arith

another_variable_does_not_occur : ¬ (Occurs {B = ℕ} 7 (Var 6))
another_variable_does_not_occur o = omega arith

-- ---- ReadOnce

two_variables_are_read_once : (p q : _) → ReadOnce {B = ℕ} (Add' p (Var 0) q (Var 1))
two_variables_are_read_once p q i = grind (arith, nat_tests)

a_constant_is_read_once : ReadOnce {B = ℕ} (Const 3)
a_constant_is_read_once i = omega arith

a_square_is_not_read_once : (p q : _) → ¬ (ReadOnce {B = ℕ} (Mul' p (Var 1) q (Var 1)))
a_square_is_not_read_once p q once = let u = once 1 in omega arith

-- ---- ShareVariable

both_have_the_first : (p q : _) → ShareVariable {B = ℕ} (Var 0) (Add' p (Var 1) q (Var 0))
both_have_the_first p q = record { variable = 0; in_first = omega arith; in_second = omega arith }

both_have_the_second : (p q r s : _) → ShareVariable {B = ℕ} (Sub' p (Var 0) q (Var 1)) (Add' r (Var 2) s (Var 1))
both_have_the_second p q r s = record { variable = 1; in_first = omega arith; in_second = omega arith }

a_constant_shares_none : ¬ (ShareVariable {B = ℕ} (Var 0) (Const 0))
a_constant_shares_none s = let o = s.in_second in omega arith

-- ---- products, HasProduct, NoProduct

two_products_of_three_factors : (p q r s : _) → products {B = ℕ} (Mul' p (Mul' r (Var 0) s (Var 1)) q (Const 2)) ≡ 2
two_products_of_three_factors p q r s = refl

a_product_below_a_sum : (p q r s : _) → HasProduct {B = ℕ} (Add' p (Var 0) q (Mul' r (Var 0) s (Var 1)))
a_product_below_a_sum p q r s = omega arith

a_sum_has_no_product : (p q : _) → NoProduct {B = ℕ} (Add' p (Var 0) q (Var 0))
a_sum_has_no_product p q = refl
