-- Indexes of an array, and what may be added to them.
--     IsIndexOf length z      z is an index of an array of this length: from 0 to below it
--     SafeIn S T length x      x is in S, and x + y is an index for every y in T
use Rattle.std.specs.Prelude.{ℕ, ℤ, pos, ◌+ℤ◌, ◌≤ℤ◌, ◌<ℤ◌}

abbrev pub IsIndexOf : ℕ → ℤ → Type 0
IsIndexOf length z = (pos 0 ≤ℤ z) × (z <ℤ pos length)

abbrev pub SafeIn : (ℤ → Type 0) → (ℤ → Type 0) → ℕ → ℤ → Type 0
SafeIn S T length x = S x × ((y : ℤ) → T y → IsIndexOf length (x +ℤ y))
