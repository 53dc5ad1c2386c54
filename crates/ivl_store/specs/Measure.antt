-- How many members some sets have together.
--     covers L z      whether some run covers the number
--     count_from L low n      how many of the n numbers from `low` on are covered
--     total whole sets      how many members within the range the sets have together
--     HaveTogether whole n sets      n is the sum of the counts of the members of each set that lie within the range
--     TotalIsSumOfCounts sets      so is `total`, for every range
use Rattle.std.specs.Prelude.{◌≡◌, ℕ, zero, suc, ◌+◌, ℤ, pos, ◌+ℤ◌, Bool, false, ◌&&◌, ◌||◌, int_le, if◌then◌else◌, List, [], ◌∷◌}
use Rattle.ivl_laws.specs.Bounds.{width_of}
use Rattle.ivl_laws.specs.Counts.{IsCountOf}
use Rattle.ivl_laws.specs.Runs.{Covers}
use Rattle.ivl_laws.specs.Sets.{IsBetween, Intersection}

abbrev pub covers : List (ℤ × ℤ) → ℤ → Bool
covers [] z = false
covers (run ∷ runs) z = (int_le run.0 z && int_le z run.1) || covers runs z

unfoldable pub count_from : List (ℤ × ℤ) → ℤ → ℕ → ℕ
count_from runs low zero = 0
count_from runs low (suc n) = (if covers runs (low +ℤ pos n) then 1 else 0) + count_from runs low n

abbrev pub total_from : ℤ → ℕ → List (List (ℤ × ℤ)) → ℕ
total_from low n [] = 0
total_from low n (s ∷ sets) = count_from s low n + total_from low n sets

abbrev pub total : ℤ × ℤ → List (List (ℤ × ℤ)) → ℕ
total whole sets = total_from whole.0 (width_of whole) sets

abbrev pub HaveTogether : ℤ × ℤ → ℕ → List (List (ℤ × ℤ)) → Type 0
HaveTogether whole n [] = n ≡ 0
HaveTogether whole n (s ∷ sets) =
    (first others : ℕ) × IsCountOf first (Intersection (Covers s) (IsBetween whole)) × HaveTogether whole others sets × (n ≡ first + others)

abbrev pub TotalIsSumOfCounts : List (List (ℤ × ℤ)) → Type 0
TotalIsSumOfCounts sets = (whole : ℤ × ℤ) → HaveTogether whole (total whole sets) sets
