-- A run that was taken from a list, beside the rest of the list.
--     led_by o L      the run that is held, if any, and then the list
--     IsTakenIf test L M      M is L without its first run where the test holds, and L itself where not
use Rattle.std.specs.Prelude.{◌≡◌, ℤ, Bool, true, false, List, ◌∷◌, Option, Some, None}

abbrev pub led_by : Option (ℤ × ℤ) → List (ℤ × ℤ) → List (ℤ × ℤ)
led_by None L = L
led_by (Some p) L = p ∷ L

abbrev pub IsTakenIf : Bool → List (ℤ × ℤ) → List (ℤ × ℤ) → Type 0
IsTakenIf true L M = (run : ℤ × ℤ) × (L ≡ run ∷ M)
IsTakenIf false L M = M ≡ L
