-- Lists that are written item by item, and the numbers that intervals of one number each cover.
use Rattle.std.proofs.Common.{◌≡◌, ⊎_elim, inl, inr, ℕ, ◌+◌, ◌<◌, ℤ, List, [], ◌∷◌, ◌++◌, map, take, length, get_or, arith}
use Rattle.std.proofs.lemmas.Int.{ints}
use Rattle.std.proofs.lemmas.List.{map_more}
use Rattle.ivl_laws.specs.Sets.{SameMembers}
use Rattle.ivl_laws.specs.Runs.{Covers}
use Rattle.ivl_laws.specs.Counts.{IsIn}

-- M is the list L of what was written of the first i items, and what is written of the next
pub next_written : {X Y : Type 0} (f : X → Y) (xs : List X) (i : ℕ) (d : X) (L M : List Y) (y : Y) → i < length xs → d ≡ get_or xs i d → L ≡ map f (take i xs) → M ≡ L ++ y ∷ [] → y ≡ f d → M ≡ map f (take (i + 1) xs)
next_written f xs i d L M y h e p q s = let more = map_more f xs i d h in cc

pub singles_cover : {X : Type 0} (f : X → ℤ) (xs : List X) → SameMembers (Covers (map (λ x. (f x, f x)) xs)) (IsIn (map f xs))
singles_cover f [] z = ((λ c. c), (λ i. i))
singles_cover f (x ∷ xs) z = (
  ⊎_elim (λ b. let low = b.0 in let high = b.1 in inl (omega (arith, ints))) (λ c. inr ((singles_cover f xs z).0 c)),
  ⊎_elim (λ e. inl (omega (arith, ints), omega (arith, ints))) (λ i. inr ((singles_cover f xs z).1 i)),
)
