-- Lists of runs: pairs that ascend and leave numbers free between them.
--     Covers L z      some pair of the list covers z
--     StartsAfter u L      the first pair, if there is one, leaves a number free between u and itself
--     IsMaximal L      the pairs are not crossed, ascend, and leave a number free between neighbours
--     IsRunsOf L S      L is maximal and covers the members of S and nothing else
--     IsRunListIn whole L      L is maximal and covers numbers of the range alone
--     StartsBy v L      no pair starts above v
--     runs_below v L      how many pairs end below v
--     AddsRun old p new      what adding a run that starts no lower than the others makes
use Rattle.std.specs.Prelude.{ℕ, ◌+◌, ◌⊎◌, ℤ, pos, ◌+ℤ◌, ◌≤ℤ◌, int_lt, if◌then◌else◌, List, [], ◌∷◌}
use Rattle.ivl_laws.specs.Sets.{IsBetween, IsSubset, SameMembers, Union}

abbrev pub Covers : List (ℤ × ℤ) → ℤ → Type 0
Covers [] z = ⊥
Covers (p ∷ L) z = IsBetween p z ⊎ Covers L z

abbrev pub StartsAfter : ℤ → List (ℤ × ℤ) → Type 0
StartsAfter u [] = Unit {0}
StartsAfter u (p ∷ L) = (u +ℤ pos 2) ≤ℤ p.0

abbrev pub IsMaximal : List (ℤ × ℤ) → Type 0
IsMaximal [] = Unit {0}
IsMaximal (p ∷ L) = (p.0 ≤ℤ p.1) × StartsAfter p.1 L × IsMaximal L

pub record IsRunsOf (L : List (ℤ × ℤ)) (S : ℤ → Type 0) : Type 0 where
  pub maximal : IsMaximal L
  pub members : SameMembers (Covers L) S

-- a set over the range
pub record IsRunListIn (whole : ℤ × ℤ) (L : List (ℤ × ℤ)) : Type 0 where
  pub maximal : IsMaximal L
  pub within : IsSubset (Covers L) (IsBetween whole)

abbrev pub StartsBy : ℤ → List (ℤ × ℤ) → Type 0
StartsBy v [] = Unit {0}
StartsBy v (p ∷ L) = (p.0 ≤ℤ v) × StartsBy v L

pub record AddsRun (old : List (ℤ × ℤ)) (p : ℤ × ℤ) (new : List (ℤ × ℤ)) : Type 0 where
  pub runs : IsRunsOf new (Union (Covers old) (IsBetween p))
  pub starts : StartsBy p.0 new

abbrev pub runs_below : ℤ → List (ℤ × ℤ) → ℕ
runs_below v [] = 0
runs_below v (p ∷ L) = (if int_lt p.1 v then 1 else 0) + runs_below v L
