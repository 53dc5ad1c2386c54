-- The range of a bound type, how many numbers a pair spans, and how the values of a type are ordered.
--     width_of p      the upper less the lower plus one; 0 if the pair is crossed
--     IsBoundRange whole      the range holds 0 and 1 and lies in the 64-bit numbers
--     OrdersByNumber, OrdersByCount      the tests of a type answer as those of the numbers of its values
--     non_negative_part z      z, or zero if it is negative
use Rattle.std.specs.Prelude.{◌≡◌, ℕ, ◌-◌, ◌^◌, ℤ, pos, negsuc, ◌+ℤ◌, ◌-ℤ◌, ◌≤ℤ◌, Bool, Option, Some, nat_eq}
use Rattle.std.specs.declared.cmp.Ordering.{Ordering}
use Rattle.std.specs.Ordering.{int_cmp, int_eq, nat_cmp}

abbrev pub non_negative_part : ℤ → ℕ
non_negative_part (pos n) = n
non_negative_part (negsuc n) = 0

abbrev pub width_of : ℤ × ℤ → ℕ
width_of p = non_negative_part ((p.1 -ℤ p.0) +ℤ pos 1)

pub record IsBoundRange (whole : ℤ × ℤ) : Type 0 where
  pub low_at_most : whole.0 ≤ℤ pos 0
  pub high_at_least : pos 1 ≤ℤ whole.1
  pub low_at_least : negsuc (2 ^ 63 - 1) ≤ℤ whole.0
  pub high_at_most : whole.1 ≤ℤ pos (2 ^ 64 - 1)

pub record OrdersByNumber {K : Type 0} (number : K → ℤ) (eq : K → K → Bool)
    (partial_cmp : K → K → Option Ordering) (cmp : K → K → Ordering) : Type 0 where
  pub equal : (x y : K) → eq x y ≡ int_eq (number x) (number y)
  pub partial : (x y : K) → partial_cmp x y ≡ Some (int_cmp (number x) (number y))
  pub total : (x y : K) → cmp x y ≡ int_cmp (number x) (number y)

-- the same for numbers that are never negative
pub record OrdersByCount {K : Type 0} (number : K → ℕ) (eq : K → K → Bool)
    (partial_cmp : K → K → Option Ordering) (cmp : K → K → Ordering) : Type 0 where
  pub equal : (x y : K) → eq x y ≡ nat_eq (number x) (number y)
  pub partial : (x y : K) → partial_cmp x y ≡ Some (nat_cmp (number x) (number y))
  pub total : (x y : K) → cmp x y ≡ nat_cmp (number x) (number y)
