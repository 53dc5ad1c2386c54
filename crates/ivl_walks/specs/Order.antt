-- Sets that lie one above the other.
--     IsBelow gap S T      each member of T is above each member of S, by the gap at least
use Rattle.std.specs.Prelude.{ℤ, ◌+ℤ◌, ◌≤ℤ◌}

abbrev pub IsBelow : ℤ → (ℤ → Type 0) → (ℤ → Type 0) → Type 0
IsBelow gap S T = (x : ℤ) (y : ℤ) → S x → T y → (x +ℤ gap) ≤ℤ y
