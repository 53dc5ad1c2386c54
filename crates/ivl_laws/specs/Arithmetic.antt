-- What the sums, differences and products of sets are in terms of their runs, and what a hull holds.
--     CoversBoth L x y      one pair of the list covers both numbers
--     pairwise f L M      the results of f over each pair of L with each pair of M, those of M running faster
--     interval_sum, interval_difference      the sums, and the differences, of two intervals that are not crossed
--     corner_hull      from the least to the greatest of the four products of the ends
--     Span S      the numbers from one member of S to another
use Rattle.std.specs.Prelude.{◌⊎◌, ℤ, ◌+ℤ◌, ◌-ℤ◌, ◌*ℤ◌, ◌≤ℤ◌, List, [], ◌∷◌, map, flat_map}
use Rattle.std.specs.Int.{int_min, int_max}
use Rattle.ivl_laws.specs.Sets.{IsBetween}

abbrev pub CoversBoth : List (ℤ × ℤ) → ℤ → ℤ → Type 0
CoversBoth [] x y = ⊥
CoversBoth (p ∷ L) x y = (IsBetween p x × IsBetween p y) ⊎ CoversBoth L x y

abbrev pub pairwise : (ℤ × ℤ → ℤ × ℤ → ℤ × ℤ) → List (ℤ × ℤ) → List (ℤ × ℤ) → List (ℤ × ℤ)
pairwise f L M = flat_map (λ p. map (f p) M) L

abbrev pub interval_sum : ℤ × ℤ → ℤ × ℤ → ℤ × ℤ
interval_sum p q = (p.0 +ℤ q.0, p.1 +ℤ q.1)

abbrev pub interval_difference : ℤ × ℤ → ℤ × ℤ → ℤ × ℤ
interval_difference p q = (p.0 -ℤ q.1, p.1 -ℤ q.0)

abbrev pub corner_hull : ℤ × ℤ → ℤ × ℤ → ℤ × ℤ
corner_hull p q = (
  int_min (int_min (p.0 *ℤ q.0) (p.0 *ℤ q.1)) (int_min (p.1 *ℤ q.0) (p.1 *ℤ q.1)),
  int_max (int_max (p.0 *ℤ q.0) (p.0 *ℤ q.1)) (int_max (p.1 *ℤ q.0) (p.1 *ℤ q.1)),
)

abbrev pub Span : (ℤ → Type 0) → ℤ → Type 0
Span S z = (x : ℤ) × (y : ℤ) × S x × S y × (x ≤ℤ z) × (z ≤ℤ y)
