-- Sums and differences as far as they lie in a window, which may be the range.
--     Clipped window S      the members of S in the window
--     SumsBy op S T      the sums, or the differences, of a member of each
--     pair_by op p q      the pair that holds those of two intervals that are not crossed
--     reach_by op w p      from the least to the greatest number whose result with one of p is in w
--     reach_back_by op w q      the same where one of q stands second
use Rattle.std.specs.Prelude.{ℤ}
use Rattle.ivl_laws.specs.Sets.{IsBetween, Intersection, Sums, Differences}
use Rattle.ivl_laws.specs.Arithmetic.{interval_sum, interval_difference}
use Rattle.ivl_within.specs.declared.within.Combined.{Combined}
use Rattle.ivl_within.specs.declared.within.Combined.TheVariants.{Sum, Difference}

abbrev pub Clipped : ℤ × ℤ → (ℤ → Type 0) → ℤ → Type 0
Clipped window S = Intersection S (IsBetween window)

abbrev pub SumsBy : Combined → (ℤ → Type 0) → (ℤ → Type 0) → ℤ → Type 0
SumsBy Sum = Sums
SumsBy Difference = Differences

abbrev pub pair_by : Combined → ℤ × ℤ → ℤ × ℤ → ℤ × ℤ
pair_by Sum = interval_sum
pair_by Difference = interval_difference

abbrev pub reach_by : Combined → ℤ × ℤ → ℤ × ℤ → ℤ × ℤ
reach_by Sum w p = interval_difference w p
reach_by Difference w p = interval_difference p w

abbrev pub reach_back_by : Combined → ℤ × ℤ → ℤ × ℤ → ℤ × ℤ
reach_back_by Sum w q = interval_difference w q
reach_back_by Difference w q = interval_sum w q
