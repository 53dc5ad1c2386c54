-- A set cut from a number up to the end of the range.
use Rattle.std.proofs.Common.{◌⊎◌, inl, inr, ℤ, pos, ◌+ℤ◌, arith}
use Rattle.std.proofs.lemmas.Int.{ints, by_lt_z}
use Rattle.ivl_laws.specs.Sets.{AtLeast, Below, HasNone, IsBetween, IsSubset, SameMembers, Without}
use Rattle.ivl_laws.proofs.Intervals.{none_is_crossed}
use Rattle.ivl_places.specs.Edits.{widened}

module _ (whole W : ℤ × ℤ) (v : ℤ) (S : ℤ → Type 0) (w : SameMembers (IsBetween W) (AtLeast v (IsBetween whole))) (s : IsSubset S (IsBetween whole)) where
  -- the number above the cut is above the range, so no member
  pub cut_is_last : HasNone (IsBetween W) ⊎ (¬ (IsSubset (IsBetween (widened W)) S))
  cut_is_last = by_lt_z W.1 W.0
      (λ h. inl ((none_is_crossed W).1 h))
      (λ h. inr (λ k.
      let there = s (W.1 +ℤ pos 1) (k (W.1 +ℤ pos 1) (omega (arith, ints), omega (arith, ints))) in
      let low = ((w W.1).0 (h, omega (arith, ints))).1 in
      let next = ((w (W.1 +ℤ pos 1)).1 (there, omega (arith, ints))).1 in
      absurd (omega (arith, ints))))

  pub rest_is_below : SameMembers (Without S (IsBetween W)) (Below v S)
  rest_is_below z = (
    (λ (t, n). (t, by_lt_z z v (λ h. h) (λ h. absurd (n ((w z).1 (s z t, h)))))),
    (λ (t, h). (t, λ b. let low = ((w z).0 b).1 in omega (arith, ints))),
  )
