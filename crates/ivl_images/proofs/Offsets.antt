-- So many numbers from the start of an interval that has them, in 128 bits.
use Rattle.std.proofs.Common.{◌≡◌, ◌+◌, ◌-◌, ◌^◌, ◌≤◌, ◌<◌, ℕ, ℤ, pos, ◌+ℤ◌, ◌-ℤ◌, ◌≤ℤ◌, arith}
use mir.Syntax.{w128}
use mir.Val.{SFits, of_z, to_z}
use Rattle.std.specs.Prelude.{◌<ℤ◌}
use Rattle.std.proofs.lemmas.Int.{ints, by_lt_z}
use Rattle.ivl_laws.specs.Bounds.{IsBoundRange, width_of}
use Rattle.ivl_laws.specs.Sets.{IsBetween, IsSubset}
use Rattle.ivl_laws.proofs.Intervals.{width_of-crossed, width_of-filled}
use Rattle.ivl_laws.proofs.Runs.{lower_end, upper_end}

module _ (whole p : ℤ × ℤ) (n : ℕ) (bounds : IsBoundRange whole) (within : IsSubset (IsBetween p) (IsBetween whole)) (some : 0 < n) (room : n ≤ width_of p) where
  filled : p.0 ≤ℤ p.1
  filled = by_lt_z p.1 p.0 (λ (c : p.1 <ℤ p.0). let e = width_of-crossed p c in absurd (omega arith)) (λ le. le)

  pub start_in : IsBetween whole p.0
  start_in = within p.0 (lower_end p filled)

  pub last_in : IsBetween whole ((p.0 +ℤ pos n) -ℤ pos 1)
  last_in =
      let low = start_in in
      let high = within p.1 (upper_end p filled) in
      let width = width_of-filled p filled in
      (omega (arith, ints, low.0), omega (arith, ints, high.1))

  few : n ≤ 2 ^ 65
  few =
      let low = start_in in
      let high = within p.1 (upper_end p filled) in
      let width = width_of-filled p filled in
      let l = bounds.low_at_least in
      let h = bounds.high_at_most in
      omega (arith, ints, low.0, high.1)

  -- x, y and k are the start, as it was read, and the count
  module _ (x y : ℤ) (k : ℕ) (e : x ≡ y) (f : y ≡ p.0) (c : k ≡ n) where
    pub count_fits : SFits w128 (pos (k - 1))
    count_fits = let a = few in omega (arith, ints)

    pub sum_fits : SFits w128 (to_z w128 (of_z w128 x) +ℤ to_z w128 (k - 1))
    sum_fits =
        let a = few in
        let b = start_in in
        let l = bounds.low_at_least in
        let h = bounds.high_at_most in
        let s : to_z w128 (of_z w128 x) ≡ p.0 = omega (arith, ints, b.0, b.1) in
        let t : to_z w128 (k - 1) ≡ pos n -ℤ pos 1 = omega (arith, ints) in
        rw (s, t) (omega (arith, ints, b.0, b.1))

    pub last_is : to_z w128 (of_z w128 (to_z w128 (of_z w128 x) +ℤ to_z w128 (k - 1))) ≡ (p.0 +ℤ pos n) -ℤ pos 1
    last_is =
        let a = few in
        let b = start_in in
        let l = bounds.low_at_least in
        let h = bounds.high_at_most in
        let s : to_z w128 (of_z w128 x) ≡ p.0 = omega (arith, ints, b.0, b.1) in
        let t : to_z w128 (k - 1) ≡ pos n -ℤ pos 1 = omega (arith, ints) in
        rw (s, t) (omega (arith, ints, b.0, b.1))

-- the number i places above the start
module _ (whole p : ℤ × ℤ) (i : ℕ) (bounds : IsBoundRange whole) (within : IsSubset (IsBetween p) (IsBetween whole)) (less : i < width_of p) where
  one_more : i + 1 ≤ width_of p
  one_more = omega arith

  pub place_in : IsBetween whole (p.0 +ℤ pos i)
  place_in =
      let b = last_in whole p (i + 1) bounds within (omega arith) one_more in
      let low = b.0 in
      let high = b.1 in
      (omega (arith, ints), omega (arith, ints))

  module _ (x y : ℤ) (k : ℕ) (e : x ≡ y) (f : y ≡ p.0) (c : k ≡ i) where
    pub place_fits : SFits w128 (pos k)
    place_fits = let a = few whole p (i + 1) bounds within (omega arith) one_more in omega (arith, ints)

    pub place_sum_fits : SFits w128 (to_z w128 (of_z w128 x) +ℤ to_z w128 k)
    place_sum_fits =
        let a = few whole p (i + 1) bounds within (omega arith) one_more in
        let b = start_in whole p (i + 1) bounds within (omega arith) one_more in
        let l = bounds.low_at_least in
        let h = bounds.high_at_most in
        let s : to_z w128 (of_z w128 x) ≡ p.0 = omega (arith, ints, b.0, b.1) in
        let t : to_z w128 k ≡ pos i = omega (arith, ints) in
        rw (s, t) (omega (arith, ints, b.0, b.1))

    pub place_is : to_z w128 (of_z w128 (to_z w128 (of_z w128 x) +ℤ to_z w128 k)) ≡ p.0 +ℤ pos i
    place_is =
        let a = few whole p (i + 1) bounds within (omega arith) one_more in
        let b = start_in whole p (i + 1) bounds within (omega arith) one_more in
        let l = bounds.low_at_least in
        let h = bounds.high_at_most in
        let s : to_z w128 (of_z w128 x) ≡ p.0 = omega (arith, ints, b.0, b.1) in
        let t : to_z w128 k ≡ pos i = omega (arith, ints) in
        rw (s, t) (omega (arith, ints, b.0, b.1))
