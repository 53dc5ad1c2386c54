-- Edits by one interval after the other.
--     AreTouching S L      each interval of L has a member of S, or a number beside it is one
--     AreCut S L      no interval of L lies in S together with the numbers on both sides
--     IsAddedIfApart A N D E p      unless A touches p, N is A with the numbers of p, and E is D with p at its end; else both stay
--     IsRemovedIfInside A N D E p      if p lies in A with the numbers on both sides, N is A without p, and E is D with p at its end; else both stay
use Rattle.std.specs.Prelude.{◌≡◌, ◌⊎◌, ℤ, List, [], ◌∷◌, ◌++◌, All}
use Rattle.ivl_laws.specs.Sets.{HasNone, HasSome, Intersection, IsBetween, IsSubset, Union, Without}
use Rattle.ivl_laws.specs.Runs.{Covers, IsRunsOf}
use Rattle.ivl_places.specs.Edits.{widened}

abbrev pub AreTouching : (ℤ → Type 0) → List (ℤ × ℤ) → Type 0
AreTouching S L = All (λ p. HasSome (Intersection S (IsBetween (widened p)))) L

abbrev pub AreCut : (ℤ → Type 0) → List (ℤ × ℤ) → Type 0
AreCut S L = All (λ p. ¬ (IsSubset (IsBetween (widened p)) S)) L

abbrev pub IsAddedIfApart : (A N D E : List (ℤ × ℤ)) → ℤ × ℤ → Type 0
IsAddedIfApart A N D E p =
    (HasSome (Intersection (Covers A) (IsBetween (widened p))) × (N ≡ A) × (E ≡ D))
    ⊎ (HasNone (Intersection (Covers A) (IsBetween (widened p))) × IsRunsOf N (Union (Covers A) (IsBetween p)) × (E ≡ D ++ p ∷ []))

abbrev pub IsRemovedIfInside : (A N D E : List (ℤ × ℤ)) → ℤ × ℤ → Type 0
IsRemovedIfInside A N D E p =
    ((¬ (IsSubset (IsBetween (widened p)) (Covers A))) × (N ≡ A) × (E ≡ D))
    ⊎ (IsSubset (IsBetween (widened p)) (Covers A) × IsRunsOf N (Without (Covers A) (IsBetween p)) × (E ≡ D ++ p ∷ []))
