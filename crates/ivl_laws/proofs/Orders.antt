-- What the tests of a bound type say of the numbers of its values.
use Rattle.std.proofs.Common.{◌≡◌, ℤ, ◌≤ℤ◌, ◌<ℤ◌, ◌↔◌, IsTrue, Bool, true, false, arith, refl, ap, ◌∙◌, sym}
use Rattle.std.specs.Prelude.{Option, cond, int_le, int_lt}
use Rattle.std.specs.Int.{int_max, int_min}
use Rattle.std.specs.declared.cmp.Ordering.{Ordering}
use Rattle.std.specs.Ordering.{int_cmp, int_eq, partial_lt, partial_le, partial_gt, partial_ge, ord_max, ord_min, is_some_and, is_le, is_lt, is_gt, is_ge}
use Rattle.std.proofs.lemmas.Int.{ints, by_lt_z}
use Rattle.std.proofs.Math.Bool.{true≢false}
use Rattle.ivl_laws.specs.Bounds.{OrdersByNumber}

pub int_le_is : (a b : ℤ) (r : Bool) → r ≡ is_le (int_cmp a b) → IsTrue r ↔ (a ≤ℤ b)
int_le_is a b r e = grind (arith, ints)

pub int_lt_is : (a b : ℤ) (r : Bool) → r ≡ is_lt (int_cmp a b) → IsTrue r ↔ (a <ℤ b)
int_lt_is a b r e = grind (arith, ints)

pub int_ge_is : (a b : ℤ) (r : Bool) → r ≡ is_ge (int_cmp a b) → IsTrue r ↔ (b ≤ℤ a)
int_ge_is a b r e = grind (arith, ints)

pub int_gt_is : (a b : ℤ) (r : Bool) → r ≡ is_gt (int_cmp a b) → IsTrue r ↔ (b <ℤ a)
int_gt_is a b r e = grind (arith, ints)

pub int_eq_is : (a b : ℤ) (r : Bool) → r ≡ int_eq a b → IsTrue r ↔ (a ≡ b)
int_eq_is a b r e = grind (arith, ints)

module _ {K : Type 0} {number : K → ℤ} {eq : K → K → Bool} {partial : K → K → Option Ordering} {total : K → K → Ordering}
    (o : OrdersByNumber number eq partial total) (x y : K) (r : Bool) where
  pub le_number : r ≡ partial_le partial x y → IsTrue r ↔ (number x ≤ℤ number y)
  le_number e = int_le_is (number x) (number y) r (e ∙ ap (is_some_and is_le) (o.partial x y))

  pub lt_number : r ≡ partial_lt partial x y → IsTrue r ↔ (number x <ℤ number y)
  lt_number e = int_lt_is (number x) (number y) r (e ∙ ap (is_some_and is_lt) (o.partial x y))

  pub ge_number : r ≡ partial_ge partial x y → IsTrue r ↔ (number y ≤ℤ number x)
  ge_number e = int_ge_is (number x) (number y) r (e ∙ ap (is_some_and is_ge) (o.partial x y))

  pub gt_number : r ≡ partial_gt partial x y → IsTrue r ↔ (number y <ℤ number x)
  gt_number e = int_gt_is (number x) (number y) r (e ∙ ap (is_some_and is_gt) (o.partial x y))

  pub eq_number : r ≡ eq x y → IsTrue r ↔ (number x ≡ number y)
  eq_number e = int_eq_is (number x) (number y) r (e ∙ o.equal x y)

pub int_max_cases : (a b : ℤ) (p : Bool) → p ≡ is_lt (int_cmp b a) → cond p a b ≡ int_max a b
int_max_cases a b p e = grind (arith, ints)

pub int_min_cases : (a b : ℤ) (p : Bool) → p ≡ is_lt (int_cmp b a) → cond p b a ≡ int_min a b
int_min_cases a b p e = grind (arith, ints)

pub number_of_cond : {K : Type 0} (number : K → ℤ) (p : Bool) (x y : K) → number (cond p x y) ≡ cond p (number x) (number y)
number_of_cond number true x y = refl
number_of_cond number false x y = refl

module _ {K : Type 0} {number : K → ℤ} {eq : K → K → Bool} {partial : K → K → Option Ordering} {total : K → K → Ordering}
    (o : OrdersByNumber number eq partial total) (x y r : K) where
  pub max_number : r ≡ ord_max total x y → number r ≡ int_max (number x) (number y)
  max_number e = ap number e ∙ number_of_cond number _ x y ∙ int_max_cases (number x) (number y) _ (ap is_lt (o.total y x))

  pub min_number : r ≡ ord_min total x y → number r ≡ int_min (number x) (number y)
  min_number e = ap number e ∙ number_of_cond number _ y x ∙ int_min_cases (number x) (number y) _ (ap is_lt (o.total y x))

pub not_le : (a b : ℤ) (r : Bool) → (IsTrue r ↔ (a ≤ℤ b)) → r ≡ false → b <ℤ a
not_le a b true h e = absurd (true≢false e)
not_le a b false h e = by_lt_z b a (λ k. k) (λ k. absurd (true≢false (sym (h.1 k))))

module _ {K : Type 0} {number : K → ℤ} {eq : K → K → Bool} {partial : K → K → Option Ordering} {total : K → K → Ordering}
    (o : OrdersByNumber number eq partial total) (x y : K) (r : Bool) where
  pub not_le_number : r ≡ partial_le partial x y → r ≡ false → number y <ℤ number x
  not_le_number e = not_le (number x) (number y) r (le_number o x y r e)

pub le_true : (a b : ℤ) → int_le a b ≡ true → a ≤ℤ b
le_true a b h = grind (arith, ints)

pub true_le : (a b : ℤ) → a ≤ℤ b → int_le a b ≡ true
true_le a b h = grind (arith, ints)

pub int_lt_true : (a b : ℤ) → a <ℤ b → int_lt a b ≡ true
int_lt_true a b h = grind (arith, ints)

pub int_lt_false : (a b : ℤ) → b ≤ℤ a → int_lt a b ≡ false
int_lt_false a b h = grind (arith, ints)
