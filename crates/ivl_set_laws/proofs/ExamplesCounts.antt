-- Examples of counts, widths and ranges. `negsuc 0` is -1, `negsuc 126` is -127.
use Rattle.std.proofs.Common.{◌≡◌, inl, inr, ⊎_elim, ℤ, pos, negsuc, ◌^◌, [], ◌∷◌, refl, arith}
use Rattle.std.proofs.lemmas.Int.{ints, by_lt_z}
use Rattle.ivl_laws.specs.Sets.{IsBetween, Union}
use Rattle.ivl_laws.specs.Runs.{Covers}
use Rattle.ivl_laws.specs.Bounds.{IsBoundRange, width_of}
use Rattle.ivl_laws.specs.Counts.{IsCountOf, IsDistinct, IsIn}
use Rattle.ivl_laws.proofs.Counts.{count_is_unique}
use Rattle.ivl_laws.proofs.Intervals.{IsCountOf-width_of}
use Rattle.ivl_laws.proofs.Widths.{IsCountOf-total_width}

-- ---- IsIn, IsDistinct

second_is_in : IsIn (pos 7 ∷ pos 3 ∷ []) (pos 3)
second_is_in = inr (inl refl)

four_is_not_in : ¬ (IsIn (pos 7 ∷ pos 3 ∷ []) (pos 4))
four_is_not_in (inl e) = omega (arith, ints)
four_is_not_in (inr (inl e)) = omega (arith, ints)
four_is_not_in (inr (inr n)) = n

nothing_is_in_none : ¬ (IsIn [] (pos 4))
nothing_is_in_none i = i

two_are_distinct : IsDistinct (pos 7 ∷ pos 3 ∷ [])
two_are_distinct = (⊎_elim (λ e. omega (arith, ints)) (λ n. n), ((λ n. n), tt))

twice_is_not_distinct : ¬ (IsDistinct (pos 7 ∷ pos 3 ∷ pos 7 ∷ []))
twice_is_not_distinct (first, rest) = first (inr (inl refl))

none_is_distinct : IsDistinct []
none_is_distinct = tt

-- ---- IsCountOf

-- 1, 2 and 3
three_from_one_to_three : IsCountOf 3 (IsBetween (pos 1, pos 3))
three_from_one_to_three = IsCountOf-width_of (pos 1, pos 3)

not_two_from_one_to_three : ¬ (IsCountOf 2 (IsBetween (pos 1, pos 3)))
not_two_from_one_to_three c = let same = count_is_unique (IsBetween (pos 1, pos 3)) 2 3 c three_from_one_to_three in omega arith

-- the numbers of both count once
two_in_a_union : IsCountOf 2 (Union (IsBetween (pos 1, pos 2)) (IsBetween (pos 2, pos 2)))
two_in_a_union = (
  pos 1 ∷ pos 2 ∷ [],
  (⊎_elim (λ e. omega (arith, ints)) (λ n. n), ((λ n. n), tt)),
  (λ z. (
    ⊎_elim (λ b. listed z b) (λ (low, high). inr (inl (omega (arith, ints)))),
    ⊎_elim (λ e. inl (omega (arith, ints), omega (arith, ints))) (⊎_elim (λ e. inr (omega (arith, ints), omega (arith, ints))) (λ n. absurd n)),
  )),
  refl,
)
  where
    listed : (z : ℤ) → IsBetween (pos 1, pos 2) z → IsIn (pos 1 ∷ pos 2 ∷ []) z
    listed z (low, high) = by_lt_z (pos 1) z (λ above. inr (inl (omega (arith, ints)))) (λ below. inl (omega (arith, ints)))

none_in_a_crossed_pair : IsCountOf 0 (IsBetween (pos 3, pos 1))
none_in_a_crossed_pair = IsCountOf-width_of (pos 3, pos 1)

five_in_two_runs : IsCountOf 5 (Covers ((pos 1, pos 2) ∷ (pos 4, pos 6) ∷ []))
five_in_two_runs = IsCountOf-total_width ((pos 1, pos 2) ∷ (pos 4, pos 6) ∷ []) (omega (arith, ints), omega (arith, ints), (omega (arith, ints), tt, tt))

-- nearly all 32-bit numbers
size_of_complement : IsCountOf 4294967287 (Covers ((negsuc 2147483646, negsuc 5) ∷ (negsuc 1, negsuc 0) ∷ (pos 2, pos 2) ∷ (pos 6, pos 2147483647) ∷ []))
size_of_complement = IsCountOf-total_width ((negsuc 2147483646, negsuc 5) ∷ (negsuc 1, negsuc 0) ∷ (pos 2, pos 2) ∷ (pos 6, pos 2147483647) ∷ [])
    (omega (arith, ints), omega (arith, ints), (omega (arith, ints), omega (arith, ints), (omega (arith, ints), omega (arith, ints), (omega (arith, ints), tt, tt))))

-- ---- width_of

three_wide : width_of (pos 1, pos 3) ≡ 3
three_wide = refl

crossed_has_no_width : width_of (pos 3, pos 1) ≡ 0
crossed_has_no_width = refl

around_zero : width_of (negsuc 126, pos 127) ≡ 255
around_zero = refl

-- ---- IsBoundRange

small_range : IsBoundRange (pos 0, pos 254)
small_range = record { low_at_most = omega (arith, ints); high_at_least = omega (arith, ints); low_at_least = omega (arith, ints); high_at_most = omega (arith, ints) }

signed_range : IsBoundRange (negsuc 126, pos 127)
signed_range = record { low_at_most = omega (arith, ints); high_at_least = omega (arith, ints); low_at_least = omega (arith, ints); high_at_most = omega (arith, ints) }

-- it lacks 0
range_above_zero_is_none : ¬ (IsBoundRange (pos 1, pos 254))
range_above_zero_is_none r = let low = r.low_at_most in omega (arith, ints)

-- 2 to the 64 is more than 64 bits hold
range_past_64_bits_is_none : ¬ (IsBoundRange (pos 0, pos (2 ^ 64)))
range_past_64_bits_is_none r = let high = r.high_at_most in omega (arith, ints)
