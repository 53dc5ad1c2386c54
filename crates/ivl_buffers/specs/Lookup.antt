-- The least member from a number on, and the lowest members in a row.
--     IsFirstFrom v S p      p is not crossed and ends at v or above, and no member of S from v on is below p
--     TellsAt pair v item t      whether the item has v; false where there is none
--     IsNextIn v S next      the least member of S that is at least v; none where there is none
--     AnswersNext v S old new told      that member is written, and true told; else nothing is written
--     IsFitIn n S run      the lowest n members of S in a row, where n is above 0 and S has so many in a row
--     AnswersFit whole n S old new told      what a call tells that looks for these
use Rattle.std.specs.Prelude.{◌≡◌, ◌↔◌, ◌⊎◌, IsTrue, ◌<◌, ℕ, ℤ, ◌≤ℤ◌, pos, Option, MatchOption, Bool, true, false}
use Rattle.ivl_laws.specs.Sets.{AtLeast, HasNone, IsBetween, IsSubset}
use Rattle.ivl_places.specs.Neighbours.{IsLeast}
use Rattle.ivl_places.specs.FirstFit.{FitsAt, IsFirstFit}
use Rattle.ivl_buffers.specs.Answers.{out_of_memory, out_of_range}

pub record IsFirstFrom (v : ℤ) (S : ℤ → Type 0) (p : ℤ × ℤ) : Type 0 where
  pub filled : p.0 ≤ℤ p.1
  pub ends : v ≤ℤ p.1
  pub first : (z : ℤ) → AtLeast v S z → p.0 ≤ℤ z

abbrev pub TellsAt : {X : Type 0} → (X → ℤ × ℤ) → ℤ → Option X → Bool → Type 0
TellsAt pair v item t = MatchOption item (t ≡ false) (λ x. IsTrue t ↔ IsBetween (pair x) v)

abbrev pub IsNextIn : ℤ → (ℤ → Type 0) → Option ℤ → Type 0
IsNextIn v S next = MatchOption next (HasNone (AtLeast v S)) (λ x. IsLeast x (AtLeast v S))

abbrev pub AnswersNext : ℤ → (ℤ → Type 0) → ℤ → ℤ → Bool → Type 0
AnswersNext v S old new told = ((told ≡ true) × IsLeast new (AtLeast v S)) ⊎ ((told ≡ false) × HasNone (AtLeast v S) × (new ≡ old))

abbrev pub IsFitIn : ℕ → (ℤ → Type 0) → Option (ℤ × ℤ) → Type 0
IsFitIn n S run = MatchOption run ((v : ℤ) → 0 < n → ¬ (FitsAt n S v)) (λ p. (0 < n) × IsFirstFit n S p)

-- 1 is told where the run is written, and 0 where there is none
abbrev pub AnswersFit : ℤ × ℤ → ℕ → (ℤ → Type 0) → ℤ × ℤ → ℤ × ℤ → ℤ → Type 0
AnswersFit whole n S old new told = ((¬ (IsSubset S (IsBetween whole))) × (told ≡ out_of_range) × (new ≡ old))
    ⊎ (IsSubset S (IsBetween whole) × (((told ≡ out_of_memory) × (new ≡ old))
    ⊎ ((told ≡ pos 1) × (0 < n) × IsFirstFit n S new)
    ⊎ ((told ≡ pos 0) × ((v : ℤ) → 0 < n → ¬ (FitsAt n S v)) × (new ≡ old))))
