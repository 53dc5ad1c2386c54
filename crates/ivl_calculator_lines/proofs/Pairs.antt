-- Pairs of numbers, each of which is its own value.
use Rattle.std.proofs.Common.{◌≡◌, ℤ, List, [], ◌∷◌, refl, ap}
use Rattle.ivl_calculator.specs.View.{number_pairs}

pub number_pairs_same : (list : List (ℤ × ℤ)) → number_pairs (λ z. z) list ≡ list
number_pairs_same [] = refl
number_pairs_same (p ∷ list) = ap (λ (more : List (ℤ × ℤ)). p ∷ more) (number_pairs_same list)
