-- Pages of a list, and runs, of which a question needs some.
--     ArePagesMet P p Q      Q are some pages of P in a row, and no other page has a number of the interval p
--     IsShortestRun n S run      the shortest run of S that has n numbers, the lowest of these
--     IsShorterOf o u r      r is the shorter of the runs o and u, the first of these if they are equally long
--     IsBetterOf n best S r      r is the shorter of the best so far and the shortest run of S that has n numbers
use Rattle.std.specs.Prelude.{◌≡◌, ◌⊎◌, ℕ, ◌+◌, ◌-◌, ◌<◌, ◌≤◌, ℤ, List, drop, take, Option, Some, None, MatchOption}
use Rattle.ivl_laws.specs.Bounds.{width_of}
use Rattle.ivl_laws.specs.Families.{set_at}
use Rattle.ivl_laws.specs.Sets.{IsBetween, IsSubset}
use Rattle.ivl_places.specs.FirstFit.{FitsAt}
use Rattle.ivl_places.specs.Fits.{IsNoBetter}
use Rattle.ivl_places.specs.Neighbours.{IsRunWith}

-- they stand from place `start` to before place `end`, and only the first and the last have numbers outside p
pub record ArePagesMet (P : List (List (ℤ × ℤ))) (p : ℤ × ℤ) (Q : List (List (ℤ × ℤ))) : Type 0 where
  pub start : ℕ
  pub end : ℕ
  pub pages : Q ≡ take (end - start) (drop start P)
  pub outside : (k : ℕ) (z : ℤ) → (k < start) ⊎ (end ≤ k) → set_at P k z → ¬ (IsBetween p z)
  pub inside : (k : ℕ) → start < k → k + 1 < end → IsSubset (set_at P k) (IsBetween p)

-- the run of S to take n numbers from
pub record IsShortestRun (n : ℕ) (S : ℤ → Type 0) (run : ℤ × ℤ) : Type 0 where
  pub of_set : IsRunWith run.0 S run
  pub enough : n ≤ width_of run
  pub shortest : (v : ℤ) (q : ℤ × ℤ) → IsRunWith v S q → n ≤ width_of q → IsNoBetter run q

abbrev pub IsShorterOf : Option (ℤ × ℤ) → Option (ℤ × ℤ) → Option (ℤ × ℤ) → Type 0
IsShorterOf None u r = r ≡ u
IsShorterOf (Some p) None r = r ≡ Some p
IsShorterOf (Some p) (Some q) r = ((width_of q < width_of p) × (r ≡ Some q)) ⊎ ((width_of p ≤ width_of q) × (r ≡ Some p))

-- beside the best so far stands the shortest run of S, if one has n numbers
pub record IsBetterOf (n : ℕ) (best : Option (ℤ × ℤ)) (S : ℤ → Type 0) (r : Option (ℤ × ℤ)) : Type 0 where
  pub other : Option (ℤ × ℤ)
  pub of_set : MatchOption other ((v : ℤ) → ¬ (FitsAt n S v)) (IsShortestRun n S)
  pub shorter : IsShorterOf best other r
