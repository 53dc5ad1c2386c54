-- Examples of sets, each definition at small numbers. `negsuc 0` is -1, `negsuc 4` is -5.
use Rattle.std.proofs.Common.{inl, inr, ⊎_elim, ℤ, pos, negsuc, Some, None, refl, arith}
use Rattle.std.proofs.lemmas.Int.{ints, by_lt_z}
use Rattle.ivl_laws.specs.Sets.{Above, AtLeast, AtMost, Below, Complement, HasNone, HasSome, Held, Intersection, IsBetween, IsCrossed, IsInRange, IsProperSubset, IsSubset, Only, SameMembers, SymmetricDifference, Union, Without}

-- ---- IsBetween

five_is_within_one_to_five : IsBetween (pos 1, pos 5) (pos 5)
five_is_within_one_to_five = (omega (arith, ints), omega (arith, ints))

six_is_not : ¬ (IsBetween (pos 1, pos 5) (pos 6))
six_is_not (low, high) = omega (arith, ints)

crossed_has_not_even_what_lies_there : ¬ (IsBetween (pos 5, pos 1) (pos 3))
crossed_has_not_even_what_lies_there (low, high) = omega (arith, ints)

-- ---- IsCrossed

two_to_one_is_crossed : IsCrossed (pos 2, pos 1)
two_to_one_is_crossed = omega (arith, ints)

one_to_one_is_not : ¬ (IsCrossed (pos 1, pos 1))
one_to_one_is_not c = omega (arith, ints)

minus_five_to_minus_one_is_not : ¬ (IsCrossed (negsuc 4, negsuc 0))
minus_five_to_minus_one_is_not c = omega (arith, ints)

-- ---- IsInRange

whole_is_in_range : IsInRange (pos 0, pos 254) (pos 0, pos 254)
whole_is_in_range = (omega (arith, ints), omega (arith, ints))

minus_one_to_five_is_not_in_range : ¬ (IsInRange (pos 0, pos 254) (negsuc 0, pos 5))
minus_one_to_five_is_not_in_range (low, high) = omega (arith, ints)

-- a crossed pair passes, though its lower number is above the range
crossed_may_be_in_range : IsInRange (pos 0, pos 254) (pos 300, pos 5)
crossed_may_be_in_range = (omega (arith, ints), omega (arith, ints))

-- ---- Only, Held

only_three_has_three : Only (pos 3) (pos 3)
only_three_has_three = refl

only_three_has_not_four : ¬ (Only (pos 3) (pos 4))
only_three_has_not_four e = omega (arith, ints)

only_minus_three_has_not_three : ¬ (Only (negsuc 2) (pos 3))
only_minus_three_has_not_three e = omega (arith, ints)

some_seven_holds_seven : Held (Some (pos 7)) (pos 7)
some_seven_holds_seven = refl

some_seven_holds_not_eight : ¬ (Held (Some (pos 7)) (pos 8))
some_seven_holds_not_eight e = omega (arith, ints)

none_holds_nothing : ¬ (Held None (pos 0))
none_holds_nothing h = h

-- ---- HasNone, HasSome

crossed_has_none : HasNone (IsBetween (pos 2, pos 1))
crossed_has_none z (low, high) = omega (arith, ints)

one_to_one_has_not_none : ¬ (HasNone (IsBetween (pos 1, pos 1)))
one_to_one_has_not_none n = n (pos 1) (omega (arith, ints), omega (arith, ints))

touching_have_none_in_common : HasNone (Intersection (IsBetween (pos 1, pos 2)) (IsBetween (pos 3, pos 5)))
touching_have_none_in_common z ((a, b), (c, d)) = omega (arith, ints)

one_to_one_has_some : HasSome (IsBetween (pos 1, pos 1))
one_to_one_has_some = (pos 1, (omega (arith, ints), omega (arith, ints)))

crossed_has_not_some : ¬ (HasSome (IsBetween (pos 2, pos 1)))
crossed_has_not_some (z, (low, high)) = omega (arith, ints)

overlapping_have_some_in_common : HasSome (Intersection (IsBetween (pos 1, pos 3)) (IsBetween (pos 3, pos 5)))
overlapping_have_some_in_common = (pos 3, ((omega (arith, ints), omega (arith, ints)), (omega (arith, ints), omega (arith, ints))))

-- ---- IsSubset, IsProperSubset, SameMembers

part_is_subset : IsSubset (IsBetween (pos 2, pos 3)) (IsBetween (pos 1, pos 5))
part_is_subset z (low, high) = (omega (arith, ints), omega (arith, ints))

larger_is_no_subset : ¬ (IsSubset (IsBetween (pos 1, pos 5)) (IsBetween (pos 2, pos 3)))
larger_is_no_subset h = let low = (h (pos 1) (omega (arith, ints), omega (arith, ints))).0 in omega (arith, ints)

crossed_is_subset_of_all : (S : ℤ → Type 0) → IsSubset (IsBetween (pos 2, pos 1)) S
crossed_is_subset_of_all S z (low, high) = absurd (omega (arith, ints))

part_is_proper_subset : IsProperSubset (IsBetween (pos 2, pos 3)) (IsBetween (pos 1, pos 5))
part_is_proper_subset = (part_is_subset, λ h. let low = ((h (pos 1)).1 (omega (arith, ints), omega (arith, ints))).0 in omega (arith, ints))

no_set_is_its_own_proper_subset : (S : ℤ → Type 0) → ¬ (IsProperSubset S S)
no_set_is_its_own_proper_subset S (h, n) = n (λ z. (h z, h z))

none_is_proper_subset_of_some : IsProperSubset (IsBetween (pos 2, pos 1)) (IsBetween (pos 0, pos 0))
none_is_proper_subset_of_some = (crossed_is_subset_of_all (IsBetween (pos 0, pos 0)), λ h. let low = ((h (pos 0)).1 (omega (arith, ints), omega (arith, ints))).0 in omega (arith, ints))

crossed_pairs_have_same_members : SameMembers (IsBetween (pos 2, pos 1)) (IsBetween (pos 9, pos 0))
crossed_pairs_have_same_members z = ((λ (low, high). absurd (omega (arith, ints))), (λ (low, high). absurd (omega (arith, ints))))

one_to_two_is_not_one_to_three : ¬ (SameMembers (IsBetween (pos 1, pos 2)) (IsBetween (pos 1, pos 3)))
one_to_two_is_not_one_to_three h = let high = ((h (pos 3)).1 (omega (arith, ints), omega (arith, ints))).1 in omega (arith, ints)

touching_make_one : SameMembers (Union (IsBetween (pos 1, pos 2)) (IsBetween (pos 3, pos 5))) (IsBetween (pos 1, pos 5))
touching_make_one z = (
  ⊎_elim (λ (low, high). (omega (arith, ints), omega (arith, ints))) (λ (low, high). (omega (arith, ints), omega (arith, ints))),
  λ (low, high). by_lt_z (pos 2) z (λ above. inr (omega (arith, ints), omega (arith, ints))) (λ below. inl (low, below)),
)

-- ---- Union, Intersection, Without, SymmetricDifference, Complement

four_is_in_union : Union (IsBetween (pos 1, pos 2)) (IsBetween (pos 4, pos 5)) (pos 4)
four_is_in_union = inr (omega (arith, ints), omega (arith, ints))

two_is_in_union : Union (IsBetween (pos 1, pos 2)) (IsBetween (pos 4, pos 5)) (pos 2)
two_is_in_union = inl (omega (arith, ints), omega (arith, ints))

three_is_not_in_union : ¬ (Union (IsBetween (pos 1, pos 2)) (IsBetween (pos 4, pos 5)) (pos 3))
three_is_not_in_union (inl (low, high)) = omega (arith, ints)
three_is_not_in_union (inr (low, high)) = omega (arith, ints)

three_is_in_intersection : Intersection (IsBetween (pos 1, pos 3)) (IsBetween (pos 3, pos 5)) (pos 3)
three_is_in_intersection = ((omega (arith, ints), omega (arith, ints)), (omega (arith, ints), omega (arith, ints)))

two_is_not_in_intersection : ¬ (Intersection (IsBetween (pos 1, pos 3)) (IsBetween (pos 3, pos 5)) (pos 2))
two_is_not_in_intersection ((a, b), (c, d)) = omega (arith, ints)

nine_is_not_in_intersection : ¬ (Intersection (IsBetween (pos 1, pos 3)) (IsBetween (pos 3, pos 5)) (pos 9))
nine_is_not_in_intersection ((a, b), (c, d)) = omega (arith, ints)

one_is_in_difference : Without (IsBetween (pos 1, pos 5)) (IsBetween (pos 3, pos 9)) (pos 1)
one_is_in_difference = ((omega (arith, ints), omega (arith, ints)), λ (low, high). omega (arith, ints))

three_is_not_in_difference : ¬ (Without (IsBetween (pos 1, pos 5)) (IsBetween (pos 3, pos 9)) (pos 3))
three_is_not_in_difference (b, n) = n (omega (arith, ints), omega (arith, ints))

nine_is_not_in_difference : ¬ (Without (IsBetween (pos 1, pos 5)) (IsBetween (pos 3, pos 9)) (pos 9))
nine_is_not_in_difference ((low, high), n) = omega (arith, ints)

one_is_in_just_the_first : SymmetricDifference (IsBetween (pos 1, pos 5)) (IsBetween (pos 3, pos 9)) (pos 1)
one_is_in_just_the_first = inl one_is_in_difference

nine_is_in_just_the_second : SymmetricDifference (IsBetween (pos 1, pos 5)) (IsBetween (pos 3, pos 9)) (pos 9)
nine_is_in_just_the_second = inr ((omega (arith, ints), omega (arith, ints)), λ (low, high). omega (arith, ints))

four_is_in_both : ¬ (SymmetricDifference (IsBetween (pos 1, pos 5)) (IsBetween (pos 3, pos 9)) (pos 4))
four_is_in_both (inl (b, n)) = n (omega (arith, ints), omega (arith, ints))
four_is_in_both (inr (b, n)) = n (omega (arith, ints), omega (arith, ints))

six_is_in_complement : Complement (pos 0, pos 254) (IsBetween (pos 0, pos 5)) (pos 6)
six_is_in_complement = ((omega (arith, ints), omega (arith, ints)), λ (low, high). omega (arith, ints))

five_is_not_in_complement : ¬ (Complement (pos 0, pos 254) (IsBetween (pos 0, pos 5)) (pos 5))
five_is_not_in_complement (b, n) = n (omega (arith, ints), omega (arith, ints))

-- the complement ends where the range does
next_above_range_is_not_in_complement : ¬ (Complement (pos 0, pos 254) (IsBetween (pos 0, pos 5)) (pos 255))
next_above_range_is_not_in_complement ((low, high), n) = omega (arith, ints)

-- ---- AtLeast, AtMost, Above, Below

three_is_at_least_three : AtLeast (pos 3) (IsBetween (pos 1, pos 5)) (pos 3)
three_is_at_least_three = ((omega (arith, ints), omega (arith, ints)), omega (arith, ints))

two_is_not_at_least_three : ¬ (AtLeast (pos 3) (IsBetween (pos 1, pos 5)) (pos 2))
two_is_not_at_least_three (b, low) = omega (arith, ints)

six_is_no_member_at_least_three : ¬ (AtLeast (pos 3) (IsBetween (pos 1, pos 5)) (pos 6))
six_is_no_member_at_least_three ((low, high), a) = omega (arith, ints)

three_is_at_most_three : AtMost (pos 3) (IsBetween (pos 1, pos 5)) (pos 3)
three_is_at_most_three = ((omega (arith, ints), omega (arith, ints)), omega (arith, ints))

four_is_not_at_most_three : ¬ (AtMost (pos 3) (IsBetween (pos 1, pos 5)) (pos 4))
four_is_not_at_most_three (b, high) = omega (arith, ints)

zero_is_no_member_at_most_three : ¬ (AtMost (pos 3) (IsBetween (pos 1, pos 5)) (pos 0))
zero_is_no_member_at_most_three ((low, high), a) = omega (arith, ints)

four_is_above_three : Above (pos 3) (IsBetween (pos 1, pos 5)) (pos 4)
four_is_above_three = ((omega (arith, ints), omega (arith, ints)), omega (arith, ints))

three_is_not_above_three : ¬ (Above (pos 3) (IsBetween (pos 1, pos 5)) (pos 3))
three_is_not_above_three (b, low) = omega (arith, ints)

nothing_is_above_the_last : HasNone (Above (pos 5) (IsBetween (pos 1, pos 5)))
nothing_is_above_the_last z ((low, high), above) = omega (arith, ints)

two_is_below_three : Below (pos 3) (IsBetween (pos 1, pos 5)) (pos 2)
two_is_below_three = ((omega (arith, ints), omega (arith, ints)), omega (arith, ints))

three_is_not_below_three : ¬ (Below (pos 3) (IsBetween (pos 1, pos 5)) (pos 3))
three_is_not_below_three (b, high) = omega (arith, ints)

nothing_is_below_the_first : HasNone (Below (pos 1) (IsBetween (pos 1, pos 5)))
nothing_is_below_the_first z ((low, high), below) = omega (arith, ints)
