-- One step of a walk over two run lists from the left.
--     StartsFrom v L      the first pair, if there is one, starts at v or above
--     TakesFirst A B A' B' p      p is the first pair of A or of B and starts no higher than the other list; A' and B' are left
use Rattle.std.specs.Prelude.{◌≡◌, ◌⊎◌, ℤ, ◌≤ℤ◌, List, [], ◌∷◌}

abbrev pub StartsFrom : ℤ → List (ℤ × ℤ) → Type 0
StartsFrom v [] = Unit {0}
StartsFrom v (p ∷ L) = v ≤ℤ p.0

abbrev pub TakesFirst : List (ℤ × ℤ) → List (ℤ × ℤ) → List (ℤ × ℤ) → List (ℤ × ℤ) → ℤ × ℤ → Type 0
TakesFirst A B A' B' p = ((A ≡ p ∷ A') × (B ≡ B') × StartsFrom p.0 B) ⊎ ((B ≡ p ∷ B') × (A ≡ A') × StartsFrom p.0 A)
