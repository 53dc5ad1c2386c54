-- Equality of run lists, as a test.
--     same_runs L M      the test of `==`: the same intervals in the same places
use Rattle.std.specs.Prelude.{ℤ, Bool, List}
use Rattle.std.specs.Cmp.Lexicographic.{pointwise}
use Rattle.ivl_interval.specs.SameInterval.{same_interval}

abbrev pub same_runs : List (ℤ × ℤ) → List (ℤ × ℤ) → Bool
same_runs = pointwise same_interval
