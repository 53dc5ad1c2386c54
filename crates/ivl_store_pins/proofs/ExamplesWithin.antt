-- Examples of sums and differences in a window.
use Rattle.std.proofs.Common.{◌≡◌, pos, negsuc, refl, arith}
use Rattle.std.proofs.lemmas.Int.{ints}
use Rattle.ivl_laws.specs.Sets.{IsBetween}
use Rattle.ivl_within.specs.Within.{Clipped, SumsBy, pair_by, reach_by}
use Rattle.ivl_within.specs.declared.within.Combined.TheVariants.{Sum, Difference}

-- ---- Clipped

the_last_number_of_a_window_is_in_it : Clipped (pos 12, pos 62) (IsBetween (pos 50, pos 72)) (pos 62)
the_last_number_of_a_window_is_in_it = ((omega (arith, ints), omega (arith, ints)), (omega (arith, ints), omega (arith, ints)))

a_number_above_the_window_is_not_in_it : ¬ (Clipped (pos 12, pos 62) (IsBetween (pos 50, pos 72)) (pos 63))
a_number_above_the_window_is_not_in_it (member, (low, high)) = omega (arith, ints)

a_number_outside_the_set_is_not_in_it : ¬ (Clipped (pos 12, pos 62) (IsBetween (pos 50, pos 72)) (pos 49))
a_number_outside_the_set_is_not_in_it ((low, high), window) = omega (arith, ints)

-- ---- SumsBy, pair_by

sums_are_of_a_member_of_each : SumsBy Sum (IsBetween (pos 1, pos 2)) (IsBetween (pos 10, pos 10)) (pos 12)
sums_are_of_a_member_of_each = (pos 2, pos 10, (omega (arith, ints), omega (arith, ints)), (omega (arith, ints), omega (arith, ints)), refl)

differences_are_of_a_member_of_each : SumsBy Difference (IsBetween (pos 1, pos 2)) (IsBetween (pos 10, pos 10)) (negsuc 7)
differences_are_of_a_member_of_each = (pos 2, pos 10, (omega (arith, ints), omega (arith, ints)), (omega (arith, ints), omega (arith, ints)), refl)

sums_of_pairs_add_their_ends : pair_by Sum (pos 10, pos 12) (pos 50, pos 60) ≡ (pos 60, pos 72)
sums_of_pairs_add_their_ends = refl

differences_of_pairs_cross_their_ends : pair_by Difference (pos 10, pos 12) (pos 50, pos 60) ≡ (negsuc 49, negsuc 37)
differences_of_pairs_cross_their_ends = refl

-- ---- reach_by

what_reaches_a_window_by_sums : reach_by Sum (pos 12, pos 62) (pos 10, pos 12) ≡ (pos 0, pos 52)
what_reaches_a_window_by_sums = refl

what_reaches_a_window_by_differences : reach_by Difference (pos 0, pos 39) (pos 90, pos 95) ≡ (pos 51, pos 95)
what_reaches_a_window_by_differences = refl

one_number_reaches_one_number : reach_by Sum (pos 60, pos 60) (pos 0, pos 0) ≡ (pos 60, pos 60)
one_number_reaches_one_number = refl
