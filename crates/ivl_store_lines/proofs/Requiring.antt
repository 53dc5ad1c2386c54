-- Lists of pairs, and the indexes of names.
use Rattle.std.proofs.Common.{◌≡◌, ℕ, ℤ, ◌<◌, List, [], ◌∷◌, length, refl, sym, ap, map, arith}
use Rattle.std.specs.Prelude.{IfSome, Option, Some, None, bytes_eq}
use Rattle.std.proofs.lemmas.List.Quantifiers.{position-Some}
use Rattle.ivl_store_lines.specs.Solving.{variable_named}

-- a pair is the pair of its parts
pub same_pairs : (xs : List (ℤ × ℤ)) → map (λ (p : ℤ × ℤ). (p.0, p.1)) xs ≡ xs
same_pairs [] = refl
same_pairs (p ∷ xs) = ap (λ (more : List (ℤ × ℤ)). p ∷ more) (same_pairs xs)

-- the index of a name is that of a domain
pub index_of-below : (names : List (List ℕ)) (name : List ℕ) (found : Option ℕ) (count : ℕ) → found ≡ variable_named names name → length names ≡ count → IfSome found (λ i. i < count)
index_of-below names name None count is long = tt
index_of-below names name (Some i) count is long = omega (arith, long, (position-Some (λ known. bytes_eq known name) names i [] (sym is)).0)
