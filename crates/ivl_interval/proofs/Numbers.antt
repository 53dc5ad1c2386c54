-- Results that are found by the numbers of two values, each passed as an `i128`.
use Rattle.std.proofs.Common.{◌≡◌, ℕ, ℤ, pos, negsuc, ◌+◌, ◌-ℤ◌, ◌^◌, ◌<◌, ◌≤◌, ◌≤ℤ◌, ◌<ℤ◌, ◌↔◌, IsTrue, false, arith, refl, sym}
use Rattle.std.proofs.Math.Bool.{true≢false}
use Rattle.std.proofs.lemmas.Int.{ints, to_z-of_z}
use mir.Syntax.{w128}
use lib.Dec.{T}
use lib.IntN.{nat_abs}
use lib.Signed.{non_neg}
use mir.Val.{Fits, SFits, of_z, to_z}
use Rattle.ivl_laws.specs.Bounds.{IsBoundRange, width_of}
use Rattle.ivl_laws.specs.Sets.{IsBetween, IsInRange}
use Rattle.ivl_laws.proofs.Counts.{count_is_monotone}
use Rattle.ivl_laws.proofs.Intervals.{IsCountOf-width_of, in_range_is_within}

between_fits : (whole : ℤ × ℤ) (z : ℤ) → IsBoundRange whole → IsBetween whole z → SFits w128 z
between_fits whole (pos n) r b = let high = r.high_at_most in let below = b.1 in record { sfits = omega (arith, ints) }
between_fits whole (negsuc n) r b = let low = r.low_at_least in let above = b.0 in record { sfits = omega (arith, ints) }

module _ (op : ℤ → ℤ → ℤ) (x y m n : ℤ) (m_is : m ≡ x) (n_is : n ≡ y) (m_fits : SFits w128 m) (n_fits : SFits w128 n) where
  pub to_z-of_numbers : (f : ℤ) → SFits w128 (op (to_z w128 (of_z w128 m)) (to_z w128 (of_z w128 n))) → f ≡ op (to_z w128 (of_z w128 m)) (to_z w128 (of_z w128 n))
      → to_z w128 (of_z w128 f) ≡ op x y
  to_z-of_numbers f fits e = rw (e, to_z-of_z w128 _ fits, to_z-of_z w128 m m_fits, to_z-of_z w128 n n_fits, m_is, n_is)

  pub none_of_numbers : (whole : ℤ × ℤ) → IsBoundRange whole → ¬ (SFits w128 (op (to_z w128 (of_z w128 m)) (to_z w128 (of_z w128 n)))) → IsTrue false ↔ IsBetween whole (op x y)
  none_of_numbers whole r none = (
    λ t. absurd (true≢false (sym t)),
    λ b. absurd (none (rw (to_z-of_z w128 m m_fits, to_z-of_z w128 n n_fits, m_is, n_is) (between_fits whole (op x y) r b))),
  )

-- ---- the difference of two numbers of a range, the lesser from the greater

natural : (z : ℤ) → pos 0 ≤ℤ z → z <ℤ pos (2 ^ 65) → (n : ℕ) × (z ≡ pos n) × (n < 2 ^ 65)
natural (pos n) h k = (n, refl, omega (arith, ints))
natural (negsuc n) h k = absurd (omega (arith, ints))

difference_is_natural : (whole : ℤ × ℤ) (x y : ℤ) → IsBoundRange whole → IsInRange whole (y, x) → y ≤ℤ x → (n : ℕ) × (x -ℤ y ≡ pos n) × (n < 2 ^ 65)
difference_is_natural whole x y r w o =
    let low = r.low_at_least in
    let high = r.high_at_most in
    natural (x -ℤ y) (omega (arith, ints)) (omega (arith, ints, w.0, w.1))

module _ (whole : ℤ × ℤ) (x y m n : ℤ) (range : IsBoundRange whole) (within : IsInRange whole (y, x)) (in_order : y ≤ℤ x) (m_is : m ≡ x) (n_is : n ≡ y)
    (m_fits : SFits w128 m) (n_fits : SFits w128 n) where
  pub SFits-difference : SFits w128 (to_z w128 (of_z w128 m) -ℤ to_z w128 (of_z w128 n))
  SFits-difference =
      let (k, e, h) = difference_is_natural whole x y range within in_order in
      rw (to_z-of_z w128 m m_fits, to_z-of_z w128 n n_fits, m_is, n_is, e) (record { sfits = omega arith })

  pub difference_casts : T (non_neg (to_z w128 (of_z w128 (to_z w128 (of_z w128 m) -ℤ to_z w128 (of_z w128 n)))))
      × Fits w128 (nat_abs (to_z w128 (of_z w128 (to_z w128 (of_z w128 m) -ℤ to_z w128 (of_z w128 n)))))
  difference_casts =
      let (k, e, h) = difference_is_natural whole x y range within in_order in
      rw (to_z-of_z w128 (to_z w128 (of_z w128 m) -ℤ to_z w128 (of_z w128 n)) SFits-difference, to_z-of_z w128 m m_fits, to_z-of_z w128 n n_fits, m_is, n_is, e)
      (tt, record { fits = omega arith })

  pub Fits-next_difference : Fits w128 (nat_abs (to_z w128 (of_z w128 (to_z w128 (of_z w128 m) -ℤ to_z w128 (of_z w128 n)))) + 1)
  Fits-next_difference =
      let (k, e, h) = difference_is_natural whole x y range within in_order in
      rw (to_z-of_z w128 (to_z w128 (of_z w128 m) -ℤ to_z w128 (of_z w128 n)) SFits-difference, to_z-of_z w128 m m_fits, to_z-of_z w128 n n_fits, m_is, n_is, e)
      (record { fits = omega arith })

  pub next_difference : nat_abs (to_z w128 (of_z w128 (to_z w128 (of_z w128 m) -ℤ to_z w128 (of_z w128 n)))) + 1 ≡ width_of (y, x)
  next_difference =
      let (k, e, h) = difference_is_natural whole x y range within in_order in
      rw (to_z-of_z w128 (to_z w128 (of_z w128 m) -ℤ to_z w128 (of_z w128 n)) SFits-difference, to_z-of_z w128 m m_fits, to_z-of_z w128 n n_fits, m_is, n_is, e)

  pub next_difference_at_most : (greatest : ℕ) → width_of whole ≤ greatest → nat_abs (to_z w128 (of_z w128 (to_z w128 (of_z w128 m) -ℤ to_z w128 (of_z w128 n)))) + 1 ≤ greatest
  next_difference_at_most greatest most =
      rw next_difference
      (omega (arith, count_is_monotone (IsBetween (y, x)) (IsBetween whole) (width_of (y, x)) (width_of whole) (in_range_is_within whole (y, x) within) (IsCountOf-width_of (y, x)) (IsCountOf-width_of whole)))
