-- Sets of numbers that lie close together, as the bits of a word.
--     HasBit w p      bit p of w is set
--     InWord base w v      v is p above the base, for a bit p of w that is set
--     IsWordOf w base S      the bits of w are the members of S, of the 64 numbers from the base on
--     SupportsAt y z p q      q is in the word y, and p + q in the word z
--     AreSupported x y z X Y Z      the bits of x, y and z that stand in a sum p + q = r with one of each of the others
--     IsWithin n      a number at most 2^61 from 0, or one below
--     IsNear n      a number that 64 places above it fit 64 bits, as for each sum of two numbers within
--     BeginsWithin S      the least member of S, if there is one, is within
use Rattle.std.specs.Prelude.{◌≡◌, ◌↔◌, ℕ, ◌+◌, ◌-◌, ◌<◌, ◌^◌, ℤ, pos, negsuc, ◌+ℤ◌, ◌≤ℤ◌}
use Rattle.std.specs.Int.{bit_at}

abbrev pub HasBit : ℕ → ℕ → Type 0
HasBit w p = bit_at w p ≡ 1

abbrev pub InWord : ℤ → ℕ → ℤ → Type 0
InWord base w v = (p : ℕ) × HasBit w p × (v ≡ base +ℤ pos p)

abbrev pub IsWordOf : ℕ → ℤ → (ℤ → Type 0) → Type 0
IsWordOf w base S = (p : ℕ) → p < 64 → HasBit w p ↔ S (base +ℤ pos p)

abbrev pub SupportsAt : ℕ → ℕ → ℕ → ℕ → Type 0
SupportsAt y z p q = HasBit y q × HasBit z (p + q)

pub record AreSupported (x y z X Y Z : ℕ) : Type 0 where
  pub at_x : (p : ℕ) → HasBit X p ↔ (HasBit x p × (q : ℕ) × SupportsAt y z p q)
  pub at_y : (q : ℕ) → HasBit Y q ↔ ((p : ℕ) × HasBit x p × SupportsAt y z p q)
  pub at_z : (r : ℕ) → HasBit Z r ↔ ((p : ℕ) × HasBit x p × (q : ℕ) × SupportsAt y z p q × (p + q ≡ r))

abbrev pub IsNear : ℤ → Type 0
IsNear n = (negsuc (2 ^ 63 - 2 ^ 10) ≤ℤ n) × (n ≤ℤ pos (2 ^ 63 - 2 ^ 10))

abbrev pub IsWithin : ℤ → Type 0
IsWithin n = (negsuc (2 ^ 61) ≤ℤ n) × (n ≤ℤ pos (2 ^ 61))

abbrev pub BeginsWithin : (ℤ → Type 0) → Type 0
BeginsWithin S = (base : ℤ) → S base → ((v : ℤ) → S v → base ≤ℤ v) → IsWithin base
