-- Lines that state a rule, and lines that have no form of one.
use Rattle.std.proofs.Common.{◌≡◌, ◌≢◌, ◌-◌, ◌^◌, ℕ, ℤ, List, [], ◌∷◌, length, Option, None, Some, arith, inl, inr, refl}
use Rattle.std.specs.Prelude.{FitsSigned, SomeIff, ◌≤ℤ◌, int_le, neg_ℤ, pos}
use Rattle.std.specs.Int.{w64}
use Rattle.std.proofs.lemmas.Bool.{cases_Bool}
use Rattle.std.proofs.lemmas.Int.{ints}
use Rattle.ivl_laws.proofs.Orders.{le_true, true_le}
use Rattle.ivl_store_lines.specs.RuleForms.{opposite, rule_of}

-- by the count of its words
pub no_rule : (x : List ℕ) (words : List (List ℕ)) → length words ≢ 2 → length words ≢ 4 → rule_of (x ∷ words) ≡ None
no_rule x [] two four = refl
no_rule x (a ∷ []) two four = refl
no_rule x (a ∷ b ∷ []) two four = absurd (two refl)
no_rule x (a ∷ b ∷ c ∷ []) two four = refl
no_rule x (a ∷ b ∷ c ∷ d ∷ []) two four = absurd (four refl)
no_rule x (a ∷ b ∷ c ∷ d ∷ e ∷ words) two four = refl

pub no_rule_after : (x second : List ℕ) (words rest : List (List ℕ)) → words ≡ second ∷ rest → length words ≢ 2 → length rest ≢ 3 → rule_of (x ∷ words) ≡ None
no_rule_after x second words rest is two three = no_rule x words two (λ four. three (grind (arith, is, four)))

at_most_greatest : (n : ℤ) → FitsSigned w64 n → n ≤ℤ pos (2 ^ 63 - 1)
at_most_greatest n fits = omega (arith, ints, fits)

fits_opposite : (n : ℤ) → FitsSigned w64 n → neg_ℤ n ≤ℤ pos (2 ^ 63 - 1) → FitsSigned w64 (neg_ℤ n)
fits_opposite n fits below = omega (arith, ints, fits, below)

pub opposite_is : (n : ℤ) (by : Option ℤ) → FitsSigned w64 n → SomeIff by (FitsSigned w64 (neg_ℤ n)) (neg_ℤ n) → by ≡ opposite n
opposite_is n (Some m) fits is = rw (true_le (neg_ℤ n) (pos (2 ^ 63 - 1)) (at_most_greatest (neg_ℤ n) is.0), is.1) refl
opposite_is n None fits never = elim (cases_Bool (int_le (neg_ℤ n) (pos (2 ^ 63 - 1)))) [
  | inl holds ↦ absurd (never (fits_opposite n fits (le_true _ _ holds)))
  | inr fails ↦ rw fails refl
]
