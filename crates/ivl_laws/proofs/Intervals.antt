-- Pairs, their numbers, and how many these are.
use Rattle.std.proofs.Common.{◌≡◌, ◌↔◌, ℕ, ℤ, pos, negsuc, ◌+ℤ◌, ◌-ℤ◌, ◌≤ℤ◌, refl, arith}
use Rattle.std.proofs.lemmas.Int.{ints, clamps, by_lt_z}
use Rattle.std.specs.Int.{int_max}
use Rattle.ivl_laws.specs.Sets.{IsBetween, IsCrossed, IsInRange, IsSubset, HasNone, HasSome, Only, SameMembers, Sums, Differences}
use Rattle.ivl_laws.specs.Bounds.{non_negative_part, width_of}
use Rattle.ivl_laws.specs.Counts.{IsCountOf}
use Rattle.ivl_laws.proofs.Runs.{lower_end, upper_end, ≤ℤ_trans, ≤ℤ_antisymm, pair_same}
use Rattle.ivl_laws.proofs.Counts.{IsCountOf-between, IsCountOf-none, count_is_unique}

-- ---- crossed or not

pub none_is_crossed : (p : ℤ × ℤ) → HasNone (IsBetween p) ↔ IsCrossed p
none_is_crossed p = (
  λ n. by_lt_z p.1 p.0 (λ l. l) (λ k. absurd (n p.0 (lower_end p k))),
  λ c z m. let low = m.0 in let high = m.1 in omega (arith, ints),
)

pub some_is_not_crossed : (p : ℤ × ℤ) → HasSome (IsBetween p) ↔ (p.0 ≤ℤ p.1)
some_is_not_crossed p = ((λ (z, b). ≤ℤ_trans p.0 z p.1 b.0 b.1), (λ h. (p.0, lower_end p h)))

pub not_crossed : (p : ℤ × ℤ) → ¬ (IsCrossed p) → p.0 ≤ℤ p.1
not_crossed p n = by_lt_z p.1 p.0 (λ l. absurd (n l)) (λ k. k)

pub is_crossed : (p : ℤ × ℤ) → ¬ (p.0 ≤ℤ p.1) → IsCrossed p
is_crossed p n = by_lt_z p.1 p.0 (λ l. l) (λ k. absurd (n k))

-- ---- the same numbers

-- pairs with the same numbers are the same pair, where one of them is not crossed
pub same_between : (p q : ℤ × ℤ) → p.0 ≤ℤ p.1 → SameMembers (IsBetween p) (IsBetween q) → p ≡ q
same_between p q o h =
    let (a, b) = (h p.0).0 (lower_end p o) in
    let (c, d) = (h p.1).0 (upper_end p o) in
    let o' : q.0 ≤ℤ q.1 = ≤ℤ_trans q.0 p.0 q.1 a b in
    pair_same p q (≤ℤ_antisymm p.0 q.0 ((h q.0).1 (lower_end q o')).0 a) (≤ℤ_antisymm p.1 q.1 d ((h q.1).1 (upper_end q o')).1)

-- two crossed pairs have the same numbers
pub crossed_same : (p q : ℤ × ℤ) → IsCrossed p → IsCrossed q → SameMembers (IsBetween p) (IsBetween q)
crossed_same p q c d z = ((λ b. absurd ((none_is_crossed p).1 c z b)), (λ b. absurd ((none_is_crossed q).1 d z b)))

-- a pair with the numbers of a crossed one is crossed
pub crossed_if_same : (p q : ℤ × ℤ) → IsCrossed p → SameMembers (IsBetween p) (IsBetween q) → IsCrossed q
crossed_if_same p q c h = (none_is_crossed q).0 (λ z b. (none_is_crossed p).1 c z ((h z).1 b))

-- ---- within a range

-- the numbers of a pair whose ends are in the range are in the range
pub in_range_is_within : (whole p : ℤ × ℤ) → IsInRange whole p → IsSubset (IsBetween p) (IsBetween whole)
in_range_is_within whole p h z b = (≤ℤ_trans whole.0 p.0 z h.0 b.0, ≤ℤ_trans z p.1 whole.1 b.1 h.1)

-- the ends of a pair that is not crossed are among its numbers
pub within_is_in_range : (whole p : ℤ × ℤ) → p.0 ≤ℤ p.1 → IsSubset (IsBetween p) (IsBetween whole) → IsInRange whole p
within_is_in_range whole p o h = ((h p.0 (lower_end p o)).0, (h p.1 (upper_end p o)).1)

-- ---- moved by a number

pub moved : (p r : ℤ × ℤ) (v : ℤ) → r.0 ≡ (p.0 +ℤ v) → r.1 ≡ (p.1 +ℤ v) → SameMembers (IsBetween r) (Sums (IsBetween p) (Only v))
moved p r v a b z = (
  λ m. (z -ℤ v, v, (omega (arith, ints, m.0, a), omega (arith, ints, m.1, b)), refl, omega (arith, ints)),
  λ (x, y, m, e, s). (omega (arith, ints, m.0, a, e, s), omega (arith, ints, m.1, b, e, s)),
)

pub moved_down : (p r : ℤ × ℤ) (v : ℤ) → r.0 ≡ (p.0 -ℤ v) → r.1 ≡ (p.1 -ℤ v) → SameMembers (IsBetween r) (Differences (IsBetween p) (Only v))
moved_down p r v a b z = (
  λ m. (z +ℤ v, v, (omega (arith, ints, m.0, a), omega (arith, ints, m.1, b)), refl, omega (arith, ints)),
  λ (x, y, m, e, s). (omega (arith, ints, m.0, a, e, s), omega (arith, ints, m.1, b, e, s)),
)

-- ---- widths

pub pos-non_negative_part : (z : ℤ) → pos (non_negative_part z) ≡ int_max z (pos 0)
pos-non_negative_part (pos n) = omega (arith, ints, clamps)
pos-non_negative_part (negsuc n) = refl

pub width_of-filled : (p : ℤ × ℤ) → p.0 ≤ℤ p.1 → pos (width_of p) ≡ (p.1 -ℤ p.0) +ℤ pos 1
width_of-filled p h = omega (arith, ints, clamps, pos-non_negative_part ((p.1 -ℤ p.0) +ℤ pos 1))

pub width_of-crossed : (p : ℤ × ℤ) → IsCrossed p → width_of p ≡ 0
width_of-crossed p h = omega (arith, ints, clamps, pos-non_negative_part ((p.1 -ℤ p.0) +ℤ pos 1))

pub IsCountOf-width_of : (p : ℤ × ℤ) → IsCountOf (width_of p) (IsBetween p)
IsCountOf-width_of p = by_lt_z p.1 p.0
    (λ c. rw (width_of-crossed p c) (IsCountOf-none (IsBetween p) ((none_is_crossed p).1 c)))
    (λ h. IsCountOf-between p (width_of p) (width_of-filled p h))

pub count_is_width_of : (p : ℤ × ℤ) (n : ℕ) → IsCountOf n (IsBetween p) → n ≡ width_of p
count_is_width_of p n c = count_is_unique (IsBetween p) n (width_of p) c (IsCountOf-width_of p)
