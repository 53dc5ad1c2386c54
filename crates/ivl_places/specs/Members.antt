-- The members of a set, one by one.
--     numbers_from v n      the n numbers from v up, ascending
--     numbers_of run      the numbers of a run, ascending; none where it is crossed
--     members_of L      the numbers of each run in turn
--     IsAscending M      each number is below all those after it
use Rattle.std.specs.Prelude.{ℕ, suc, zero, ℤ, pos, ◌+ℤ◌, ◌<ℤ◌, List, [], ◌∷◌, ◌++◌}
use Rattle.ivl_laws.specs.Bounds.{width_of}
use Rattle.ivl_laws.specs.Counts.{IsIn}

abbrev pub numbers_from : ℤ → ℕ → List ℤ
numbers_from v zero = []
numbers_from v (suc n) = v ∷ numbers_from (v +ℤ pos 1) n

abbrev pub numbers_of : ℤ × ℤ → List ℤ
numbers_of run = numbers_from run.0 (width_of run)

abbrev pub members_of : List (ℤ × ℤ) → List ℤ
members_of [] = []
members_of (run ∷ L) = numbers_of run ++ members_of L

abbrev pub IsAscending : List ℤ → Type 0
IsAscending [] = Unit {0}
IsAscending (x ∷ M) = ((y : ℤ) → IsIn M y → x <ℤ y) × IsAscending M
