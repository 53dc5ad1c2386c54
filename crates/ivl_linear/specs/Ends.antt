-- The least and the greatest value of a term and of a sum of terms, and what is left of a set.
--     IsLeastTerm a S m, IsGreatestTerm a S m      m is the least, the greatest of the numbers a times a member of S
--     IsLeastSum terms sets m, IsGreatestSum terms sets m      m is the least, the greatest sum of the terms over points of the sets
--     IsTermEnd R a S m, IsSumEnd R terms sets m      m is one of these numbers, and has the relation R to each of them
--     AreSumEnds terms sets ends      the least and the greatest sum, both of at most 2^124 in size
--     AreEndsOf terms sets ends      they are these, or `None`, and then the variable of some term has no member
--     IsRestOf L S rest      the members of L that are in S; `None` if all are, so that a set is made only if a member is lost
use Rattle.std.specs.Prelude.{◌≡◌, ◌≤◌, ◌^◌, ℕ, ℤ, ◌*ℤ◌, ◌≤ℤ◌, List, Option, Some, None, unsigned_abs}
use Rattle.ivl_laws.specs.Runs.{Covers}
use Rattle.ivl_laws.specs.Sets.{HasNone, Intersection, IsSubset, SameMembers}
use Rattle.ivl_linear.specs.declared.linear.Term.{Term}
use Rattle.ivl_linear.specs.declared.linear.sums.SumEnds.{SumEnds}
use Rattle.ivl_linear.specs.Linear.{HasTermOf, IsInside, sum_at}

pub record IsTermEnd (R : ℤ → ℤ → Type 0) (a : ℤ) (S : ℤ → Type 0) (m : ℤ) : Type 0 where
  pub reached : (v : ℤ) × S v × (m ≡ a *ℤ v)
  pub bound : (v : ℤ) → S v → R m (a *ℤ v)

pub record IsSumEnd (R : ℤ → ℤ → Type 0) (terms : List Term) (sets : ℕ → ℤ → Type 0) (m : ℤ) : Type 0 where
  pub reached : (point : ℕ → ℤ) × IsInside terms sets point × (m ≡ sum_at terms point)
  pub bound : (point : ℕ → ℤ) → IsInside terms sets point → R m (sum_at terms point)

abbrev pub IsLeastTerm : ℤ → (ℤ → Type 0) → ℤ → Type 0
IsLeastTerm = IsTermEnd (λ m x. m ≤ℤ x)

abbrev pub IsGreatestTerm : ℤ → (ℤ → Type 0) → ℤ → Type 0
IsGreatestTerm = IsTermEnd (λ m x. x ≤ℤ m)

abbrev pub IsLeastSum : List Term → (ℕ → ℤ → Type 0) → ℤ → Type 0
IsLeastSum = IsSumEnd (λ m x. m ≤ℤ x)

abbrev pub IsGreatestSum : List Term → (ℕ → ℤ → Type 0) → ℤ → Type 0
IsGreatestSum = IsSumEnd (λ m x. x ≤ℤ m)

pub record AreSumEnds (terms : List Term) (sets : ℕ → ℤ → Type 0) (ends : SumEnds) : Type 0 where
  pub least : IsLeastSum terms sets ends.least
  pub greatest : IsGreatestSum terms sets ends.greatest
  pub small_least : unsigned_abs ends.least ≤ 2 ^ 124
  pub small_greatest : unsigned_abs ends.greatest ≤ 2 ^ 124

abbrev pub AreEndsOf : List Term → (ℕ → ℤ → Type 0) → Option SumEnds → Type 0
AreEndsOf terms sets None = (i : ℕ) × HasTermOf terms i × HasNone (sets i)
AreEndsOf terms sets (Some ends) = AreSumEnds terms sets ends

abbrev pub IsRestOf : List (ℤ × ℤ) → (ℤ → Type 0) → Option (List (ℤ × ℤ)) → Type 0
IsRestOf L S None = IsSubset (Covers L) S
IsRestOf L S (Some rest) = SameMembers (Covers rest) (Intersection (Covers L) S) × (¬ (IsSubset (Covers L) S))
