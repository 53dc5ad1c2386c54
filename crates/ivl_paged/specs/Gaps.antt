-- What lies between pages.
--     IsLeftBefore whole P i z      z is in the range and in no page, and below the members of page i and of those after it
--     AreGaps whole P i G      G has these numbers for place i, or none if i is 0
--     IsBefore whole P i p      p has the numbers up to the least one of page i, or none if that is the first
--     IsAfter whole P i p      p has the numbers from the least one of the next page on, or none if there is none
--     IsGapPage whole P i K      K has the numbers of the range that lie behind those of page i, before the next page; of the first page also those before it
use Rattle.std.specs.Prelude.{◌≡◌, ◌⊎◌, ℕ, ◌+◌, ◌<◌, ◌≤◌, ℤ, ◌<ℤ◌, List, [], length}
use Rattle.ivl_laws.specs.Families.{set_at}
use Rattle.ivl_laws.specs.Sets.{Complement, HasNone, IsBetween, Without}
use Rattle.ivl_laws.specs.Runs.{Covers, IsRunsOf}
use Rattle.ivl_places.specs.Neighbours.{IsLeast}
use Rattle.ivl_paged.specs.Pages.{flattened}

-- the numbers that the pages before place i leave free, and the first page the numbers before it
abbrev pub IsLeftBefore : ℤ × ℤ → List (List (ℤ × ℤ)) → ℕ → ℤ → Type 0
IsLeftBefore whole P i z = Complement whole (Covers (flattened P)) z × ((j : ℕ) (y : ℤ) → i ≤ j → set_at P j y → z <ℤ y)

abbrev pub AreGaps : ℤ × ℤ → List (List (ℤ × ℤ)) → ℕ → List (ℤ × ℤ) → Type 0
AreGaps whole P i G = ((i ≡ 0) × (G ≡ [])) ⊎ ((0 < i) × IsRunsOf G (IsLeftBefore whole P i))

-- the numbers up to the least one of a page, unless it is the first
abbrev pub IsBefore : ℤ × ℤ → List (List (ℤ × ℤ)) → ℕ → ℤ × ℤ → Type 0
IsBefore whole P i p = ((i ≡ 0) × HasNone (IsBetween p)) ⊎ ((v : ℤ) × (0 < i) × IsLeast v (set_at P i) × (p ≡ (whole.0, v)))

-- the numbers from the least one of the next page on, if there is one
abbrev pub IsAfter : ℤ × ℤ → List (List (ℤ × ℤ)) → ℕ → ℤ × ℤ → Type 0
IsAfter whole P i p = ((length P ≤ i + 1) × HasNone (IsBetween p)) ⊎ ((v : ℤ) × IsLeast v (set_at P (i + 1)) × (p ≡ (v, whole.1)))

-- the numbers of the range beside page i, without those before it and after it
pub record IsGapPage (whole : ℤ × ℤ) (P : List (List (ℤ × ℤ))) (i : ℕ) (K : List (ℤ × ℤ)) : Type 0 where
  pub before : ℤ × ℤ
  pub after : ℤ × ℤ
  pub is_before : IsBefore whole P i before
  pub is_after : IsAfter whole P i after
  pub members : IsRunsOf K (Without (Without (Complement whole (set_at P i)) (IsBetween before)) (IsBetween after))
