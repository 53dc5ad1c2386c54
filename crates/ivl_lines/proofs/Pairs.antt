-- Words that are read two by two.
use Rattle.std.proofs.Common.{◌≡◌, ℕ, ℤ, List, [], ◌∷◌, ◌++◌, refl, sym, ap, ◌∙◌, Option, None, Some, append_assoc}
use Rattle.std.specs.Prelude.{option_map}
use Rattle.ivl_lines.specs.Numbers.{pair_of, pairs_of}

joined : (front : List (ℤ × ℤ)) (p : ℤ × ℤ) (o : Option (List (ℤ × ℤ))) → option_map (λ more. front ++ more) (option_map (λ more. p ∷ more) o) ≡ option_map (λ more. (front ++ p ∷ []) ++ more) o
joined front p None = refl
joined front p (Some more) = ap (λ (xs : List (ℤ × ℤ)). Some xs) (sym (append_assoc front (p ∷ []) more))

-- one more pair is read
pub pairs_of-step : (words after more : List (List ℕ)) (l u : List ℕ) (all : Option (List (ℤ × ℤ))) (front pushed : List (ℤ × ℤ)) (r : Option (ℤ × ℤ)) (p : ℤ × ℤ) → words ≡ l ∷ after → after ≡ u ∷ more → r ≡ pair_of l u → r ≡ Some p → pushed ≡ front ++ p ∷ [] → all ≡ option_map (λ list. front ++ list) (pairs_of words) → all ≡ option_map (λ list. pushed ++ list) (pairs_of more)
pairs_of-step words after more l u all front pushed r p first second read some push before =
    let pair : pair_of l u ≡ Some p = sym read ∙ some in
    let here : pairs_of words ≡ option_map (λ list. p ∷ list) (pairs_of more) = rw (first, second, pair) refl in
    rw push (before ∙ ap (λ (o : Option (List (ℤ × ℤ))). option_map (λ list. front ++ list) o) here ∙ joined front p (pairs_of more))
