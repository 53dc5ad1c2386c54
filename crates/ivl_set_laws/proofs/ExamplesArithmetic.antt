-- Examples of sums, differences, products and hulls. `negsuc 0` is -1, `negsuc 4` is -5.
use Rattle.std.proofs.Common.{◌≡◌, inl, inr, ⊎_elim, ℤ, pos, negsuc, ◌*ℤ◌, [], ◌∷◌, refl, subst, arith}
use Rattle.std.proofs.lemmas.Int.{ints}
use Rattle.ivl_laws.specs.Sets.{Differences, ExactProducts, HasNone, InOneRun, IsBetween, IsHullOf, Products, Sums, Union}
use Rattle.ivl_laws.specs.Runs.{Covers}
use Rattle.ivl_laws.specs.Arithmetic.{CoversBoth, Span, corner_hull, interval_difference, interval_sum, pairwise}
use Rattle.ivl_laws.proofs.Products.{both_covered, products_of_runs}

-- ---- Sums, Differences, ExactProducts

eleven_is_a_sum : Sums (IsBetween (pos 1, pos 2)) (IsBetween (pos 10, pos 20)) (pos 11)
eleven_is_a_sum = (pos 1, pos 10, (omega (arith, ints), omega (arith, ints)), (omega (arith, ints), omega (arith, ints)), refl)

twenty_three_is_no_sum : ¬ (Sums (IsBetween (pos 1, pos 2)) (IsBetween (pos 10, pos 20)) (pos 23))
twenty_three_is_no_sum (x, y, (a, b), (c, d), e) = omega (arith, ints)

no_sum_with_an_empty_set : HasNone (Sums (IsBetween (pos 1, pos 2)) (IsBetween (pos 2, pos 1)))
no_sum_with_an_empty_set z (x, y, (a, b), (c, d), e) = omega (arith, ints)

-- 1 - 2
minus_one_is_a_difference : Differences (IsBetween (pos 1, pos 2)) (IsBetween (pos 0, pos 10)) (negsuc 0)
minus_one_is_a_difference = (pos 1, pos 2, (omega (arith, ints), omega (arith, ints)), (omega (arith, ints), omega (arith, ints)), refl)

minus_nine_is_a_difference : Differences (IsBetween (pos 1, pos 2)) (IsBetween (pos 0, pos 10)) (negsuc 8)
minus_nine_is_a_difference = (pos 1, pos 10, (omega (arith, ints), omega (arith, ints)), (omega (arith, ints), omega (arith, ints)), refl)

three_is_no_difference : ¬ (Differences (IsBetween (pos 1, pos 2)) (IsBetween (pos 0, pos 10)) (pos 3))
three_is_no_difference (x, y, (a, b), (c, d), e) = omega (arith, ints)

-- -5 * -6
thirty_is_an_exact_product : ExactProducts (IsBetween (negsuc 4, pos 2)) (IsBetween (negsuc 5, pos 3)) (pos 30)
thirty_is_an_exact_product = (negsuc 4, negsuc 5, (omega (arith, ints), omega (arith, ints)), (omega (arith, ints), omega (arith, ints)), refl)

ten_is_an_exact_product : ExactProducts (IsBetween (pos 2, pos 2)) (IsBetween (pos 5, pos 6)) (pos 10)
ten_is_an_exact_product = (pos 2, pos 5, (omega (arith, ints), omega (arith, ints)), (omega (arith, ints), omega (arith, ints)), refl)

-- 11 lies between 2 * 5 and 2 * 6, and is neither
eleven_is_no_exact_product : ¬ (ExactProducts (IsBetween (pos 2, pos 2)) (IsBetween (pos 5, pos 6)) (pos 11))
eleven_is_no_exact_product (x, y, (a, b), (c, d), e) =
    let two : x ≡ pos 2 = omega (arith, ints) in
    let doubled : pos 2 *ℤ y ≡ pos 11 = subst (λ (t : ℤ). t *ℤ y ≡ pos 11) two e in
    omega (arith, ints)

-- ---- InOneRun

one_and_three_are_in_one_run : InOneRun (Covers ((pos 1, pos 3) ∷ (pos 5, pos 9) ∷ [])) (pos 1) (pos 3)
one_and_three_are_in_one_run z (inl b) = inl b
one_and_three_are_in_one_run z (inr (low, high)) = absurd (omega (arith, ints))

nine_and_five_are_in_one_run : InOneRun (Covers ((pos 1, pos 3) ∷ (pos 5, pos 9) ∷ [])) (pos 9) (pos 5)
nine_and_five_are_in_one_run z (inl (low, high)) = absurd (omega (arith, ints))
nine_and_five_are_in_one_run z (inr b) = inr (inl b)

-- 4 is free between them
three_and_five_are_not_in_one_run : ¬ (InOneRun (Covers ((pos 1, pos 3) ∷ (pos 5, pos 9) ∷ [])) (pos 3) (pos 5))
three_and_five_are_not_in_one_run r = missing (r (pos 4) (inl (omega (arith, ints), omega (arith, ints))))
  where
    missing : ¬ (Covers ((pos 1, pos 3) ∷ (pos 5, pos 9) ∷ []) (pos 4))
    missing (inl (low, high)) = omega (arith, ints)
    missing (inr (inl (low, high))) = omega (arith, ints)
    missing (inr (inr n)) = n

-- ---- Products

-- 2 * 5 is below 11, and 2 * 6 above
eleven_is_a_product : Products (Covers ((pos 2, pos 2) ∷ [])) (Covers ((pos 5, pos 6) ∷ [])) (pos 11)
eleven_is_a_product = (
  pos 2,
  pos 2,
  pos 5,
  pos 6,
  both_covered ((pos 2, pos 2) ∷ []) (pos 2) (pos 2) (inl ((omega (arith, ints), omega (arith, ints)), (omega (arith, ints), omega (arith, ints)))),
  both_covered ((pos 5, pos 6) ∷ []) (pos 5) (pos 6) (inl ((omega (arith, ints), omega (arith, ints)), (omega (arith, ints), omega (arith, ints)))),
  omega (arith, ints),
  omega (arith, ints),
)

thirteen_is_no_product : ¬ (Products (Covers ((pos 2, pos 2) ∷ [])) (Covers ((pos 5, pos 6) ∷ [])) (pos 13))
thirteen_is_no_product p = covered ((products_of_runs ((pos 2, pos 2) ∷ []) ((pos 5, pos 6) ∷ []) (pos 13) (omega (arith, ints), tt, tt) (omega (arith, ints), tt, tt)).0 p)
  where
    covered : ¬ (Covers ((pos 10, pos 12) ∷ []) (pos 13))
    covered (inl (low, high)) = omega (arith, ints)
    covered (inr n) = n

-- 5 lies between 1 * 1 and 10 * 1, but 1 and 10 are in two runs
five_is_no_product : ¬ (Products (Covers ((pos 1, pos 1) ∷ (pos 10, pos 10) ∷ [])) (Covers ((pos 1, pos 1) ∷ [])) (pos 5))
five_is_no_product p = covered ((products_of_runs ((pos 1, pos 1) ∷ (pos 10, pos 10) ∷ []) ((pos 1, pos 1) ∷ []) (pos 5)
    (omega (arith, ints), omega (arith, ints), (omega (arith, ints), tt, tt)) (omega (arith, ints), tt, tt)).0 p)
  where
    covered : ¬ (Covers ((pos 1, pos 1) ∷ (pos 10, pos 10) ∷ []) (pos 5))
    covered (inl (low, high)) = omega (arith, ints)
    covered (inr (inl (low, high))) = omega (arith, ints)
    covered (inr (inr n)) = n

-- ---- IsHullOf, Span

hull_reaches_over_the_gap : IsHullOf (pos 1, pos 5) (Union (IsBetween (pos 1, pos 2)) (IsBetween (pos 4, pos 5)))
hull_reaches_over_the_gap = record {
  holds = λ z. ⊎_elim (λ (low, high). (omega (arith, ints), omega (arith, ints))) (λ (low, high). (omega (arith, ints), omega (arith, ints)));
  ends = λ _. (inl (omega (arith, ints), omega (arith, ints)), inr (omega (arith, ints), omega (arith, ints)));
}

-- 0 is in neither
wider_is_no_hull : ¬ (IsHullOf (pos 0, pos 5) (Union (IsBetween (pos 1, pos 2)) (IsBetween (pos 4, pos 5))))
wider_is_no_hull h = outside (h.ends (omega (arith, ints))).0
  where
    outside : ¬ (Union (IsBetween (pos 1, pos 2)) (IsBetween (pos 4, pos 5)) (pos 0))
    outside (inl (low, high)) = omega (arith, ints)
    outside (inr (low, high)) = omega (arith, ints)

hull_of_nothing_is_crossed : IsHullOf (pos 1, pos 0) (IsBetween (pos 9, pos 3))
hull_of_nothing_is_crossed = record { holds = λ z (low, high). absurd (omega (arith, ints)); ends = λ open_pair. absurd (omega (arith, ints)) }

span_reaches_over_the_gap : Span (Union (IsBetween (pos 1, pos 2)) (IsBetween (pos 4, pos 5))) (pos 3)
span_reaches_over_the_gap = (pos 2, pos 4, inl (omega (arith, ints), omega (arith, ints)), inr (omega (arith, ints), omega (arith, ints)), omega (arith, ints), omega (arith, ints))

span_does_not_reach_further : ¬ (Span (IsBetween (pos 1, pos 2)) (pos 3))
span_does_not_reach_further (x, y, (a, b), (c, d), low, high) = omega (arith, ints)

span_of_nothing_has_none : HasNone (Span (IsBetween (pos 2, pos 1)))
span_of_nothing_has_none z (x, y, (a, b), s, low, high) = omega (arith, ints)

-- ---- results of pairs

sum_of_intervals : interval_sum (pos 1, pos 2) (pos 10, pos 20) ≡ (pos 11, pos 22)
sum_of_intervals = refl

difference_of_intervals : interval_difference (pos 1, pos 2) (pos 0, pos 10) ≡ (negsuc 8, pos 2)
difference_of_intervals = refl

-- from -5..10 and -30..-20
signs_mix : corner_hull (negsuc 4, pos 10) (negsuc 29, negsuc 19) ≡ (negsuc 299, pos 150)
signs_mix = refl

zero_takes_all : corner_hull (pos 0, pos 0) (negsuc 29, pos 19) ≡ (pos 0, pos 0)
zero_takes_all = refl

both_negative : corner_hull (negsuc 4, negsuc 0) (negsuc 2, negsuc 1) ≡ (pos 2, pos 15)
both_negative = refl

products_of_two_lists : pairwise corner_hull ((pos 1, pos 2) ∷ (pos 5, pos 6) ∷ []) ((pos 0, pos 0) ∷ (pos 3, pos 4) ∷ []) ≡ (pos 0, pos 0) ∷ (pos 3, pos 8) ∷ (pos 0, pos 0) ∷ (pos 15, pos 24) ∷ []
products_of_two_lists = refl

nothing_with_anything : pairwise interval_sum [] ((pos 0, pos 0) ∷ (pos 3, pos 4) ∷ []) ≡ []
nothing_with_anything = refl

one_pair_covers_both : CoversBoth ((pos 1, pos 3) ∷ (pos 5, pos 9) ∷ []) (pos 6) (pos 5)
one_pair_covers_both = inr (inl ((omega (arith, ints), omega (arith, ints)), (omega (arith, ints), omega (arith, ints))))

no_pair_covers_both : ¬ (CoversBoth ((pos 1, pos 3) ∷ (pos 5, pos 9) ∷ []) (pos 3) (pos 5))
no_pair_covers_both (inl ((a, b), (c, d))) = omega (arith, ints)
no_pair_covers_both (inr (inl ((a, b), (c, d)))) = omega (arith, ints)
no_pair_covers_both (inr (inr n)) = n
