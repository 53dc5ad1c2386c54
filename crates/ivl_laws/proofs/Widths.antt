-- The widths of the runs of a list together, which is how many numbers a maximal list covers.
use Rattle.std.proofs.Common.{◌≡◌, ◌↔◌, ℕ, ◌≤◌, ℤ, List, [], ◌∷◌, sum_by, sym, subst, arith}
use Rattle.std.proofs.lemmas.Int.{ints}
use Rattle.std.proofs.lemmas.List.Sums.{sum_by-cons}
use Rattle.ivl_laws.specs.Sets.{IsBetween, IsSubset}
use Rattle.ivl_laws.specs.Runs.{Covers, IsMaximal}
use Rattle.ivl_laws.specs.Counts.{IsCountOf}
use Rattle.ivl_laws.specs.Bounds.{width_of}
use Rattle.ivl_laws.proofs.Runs.{covered_after}
use Rattle.ivl_laws.proofs.Counts.{IsCountOf-none, IsCountOf-apart, count_is_monotone, count_is_unique}
use Rattle.ivl_laws.proofs.Intervals.{IsCountOf-width_of}

-- the sum of the widths of the pairs
abbrev pub total_width : List (ℤ × ℤ) → ℕ
total_width L = sum_by width_of L

-- ---- as a count

pub IsCountOf-total_width : (L : List (ℤ × ℤ)) → IsMaximal L → IsCountOf (total_width L) (Covers L)
IsCountOf-total_width [] m = IsCountOf-none (Covers []) (λ z c. c)
IsCountOf-total_width (p ∷ L) m = subst (λ (n : ℕ). IsCountOf n (Covers (p ∷ L))) (sym (sum_by-cons width_of p L))
    (IsCountOf-apart (IsBetween p) (Covers L) (width_of p) (total_width L)
    (λ z b c. let high = b.1 in let far = covered_after p.1 L z m.1 m.2 c in omega (arith, ints))
    (IsCountOf-width_of p) (IsCountOf-total_width L m.2))

pub count_is_total_width : (L : List (ℤ × ℤ)) (n : ℕ) → IsMaximal L → IsCountOf n (Covers L) ↔ (n ≡ total_width L)
count_is_total_width L n m = (
  (λ c. count_is_unique (Covers L) n (total_width L) c (IsCountOf-total_width L m)),
  (λ e. rw e (IsCountOf-total_width L m)),
)

-- a maximal list within a range is no wider than the range
pub total_width-le : (whole : ℤ × ℤ) (L : List (ℤ × ℤ)) → IsMaximal L → IsSubset (Covers L) (IsBetween whole) → total_width L ≤ width_of whole
total_width-le whole L m f = count_is_monotone (Covers L) (IsBetween whole) (total_width L) (width_of whole) f (IsCountOf-total_width L m) (IsCountOf-width_of whole)

-- ---- the first runs of a list

-- ---- a loop that adds up the counts of the runs
