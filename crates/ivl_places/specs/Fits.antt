-- The shortest of the runs of a set that are long enough.
--     IsBestFit n S fit      `fit` is the first n numbers of the shortest run of S that has so many, the lowest of
--         these
--     IsNoBetter p q      the pair q is longer than p, or as long and no lower
use Rattle.std.specs.Prelude.{◌≡◌, ◌⊎◌, ℕ, ◌<◌, ◌≤◌, ℤ, pos, ◌+ℤ◌, ◌-ℤ◌, ◌≤ℤ◌}
use Rattle.ivl_laws.specs.Bounds.{width_of}
use Rattle.ivl_places.specs.Neighbours.{IsRunWith}

abbrev pub IsNoBetter : ℤ × ℤ → ℤ × ℤ → Type 0
IsNoBetter p q = (width_of p < width_of q) ⊎ ((width_of p ≡ width_of q) × (p.0 ≤ℤ q.0))

pub record IsBestFit (n : ℕ) (S : ℤ → Type 0) (fit : ℤ × ℤ) : Type 0 where
  pub count : fit.1 ≡ (fit.0 +ℤ pos n) -ℤ pos 1
  pub run : ℤ × ℤ
  pub of_set : IsRunWith fit.0 S run
  pub starts : run.0 ≡ fit.0
  pub enough : n ≤ width_of run
  pub shortest : (v : ℤ) (q : ℤ × ℤ) → IsRunWith v S q → n ≤ width_of q → IsNoBetter run q
