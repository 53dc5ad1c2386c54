-- What holds of every element of a list, and of one that a function made of another.
use Rattle.std.proofs.Common.{◌↔◌, ℕ, ◌<◌, Bool, true, false, IsTrue, List, [], ◌∷◌, map, length, refl, subst, sym, arith}
use Rattle.std.specs.Prelude.{All}
use Rattle.std.specs.Bool.{MatchBool}
use Rattle.std.specs.List.{AllWithin, HoldsAt}
use Rattle.std.proofs.lemmas.List.{length-map, get_or-map}
use Rattle.std.proofs.lemmas.List.Elements.{All-map, All-from_all_within}
use Rattle.std.proofs.Math.Bool.{true≢false}

pub tells_here : {X : Type 0} (P : X → Type 0) (xs : List X) (r : Bool)
    → MatchBool r (AllWithin P xs 0 (length xs)) ((k : ℕ) × (k < length xs) × HoldsAt (λ x. ¬ (P x)) xs k) → IsTrue r ↔ All P xs
tells_here P xs true h = ((λ _. All-from_all_within P xs h), (λ _. refl))
tells_here P [] false (k, l, n) = absurd (omega arith)
tells_here P (x ∷ xs) false (k, l, n) = ((λ t. absurd (true≢false (sym t))), (λ all. absurd (n x (all k x l))))

pub all_of_mapped : {X Y : Type 0} (P : Y → Type 0) (f : X → Y) (xs : List X) → All P (map f xs) → All (λ x. P (f x)) xs
all_of_mapped P f xs all k d h = subst P (get_or-map f xs k d (f d) h) (all k (f d) (rw (length-map xs f) h))

pub tells_all : {X Y : Type 0} (P : Y → Type 0) (f : X → Y) (xs : List X) (r : Bool)
    → MatchBool r (AllWithin (λ x. P (f x)) xs 0 (length xs)) ((k : ℕ) × (k < length xs) × HoldsAt (λ x. ¬ (P (f x))) xs k) → IsTrue r ↔ All P (map f xs)
tells_all P f xs r h = let here = tells_here (λ x. P (f x)) xs r h in ((λ t. All-map P f xs (here.0 t)), (λ all. here.1 (all_of_mapped P f xs all)))
