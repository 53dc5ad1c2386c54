-- A slice from a place to the end of a list, and the item at a place.
use Rattle.std.proofs.Common.{◌≡◌, ◌-◌, ℕ, List, length, length-drop, take, take_all, drop, arith, ◌<◌, zero, suc, [], ◌∷◌, get_or, refl}

pub from_place : {X : Type 0} (xs : List X) (n : ℕ) → take (length xs - n) (drop n xs) ≡ drop n xs
from_place xs n = take_all (length xs - n) (drop n xs) (let many = length-drop n xs in omega (arith, many))

-- the item at a place of a list, whatever stands for a missing one
pub same_item : {X : Type 0} (xs : List X) (i : ℕ) (d e : X) → i < length xs → get_or xs i d ≡ get_or xs i e
same_item [] i d e h = absurd (omega arith)
same_item (x ∷ xs) zero d e h = refl
same_item (x ∷ xs) (suc i) d e h = same_item xs i d e (omega arith)
