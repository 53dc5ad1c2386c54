-- Runs that are moved by a number.
use Rattle.std.proofs.Common.{◌≡◌, ◌↔◌, ℕ, ◌+◌, ◌<◌, inl, inr, subst, arith, List, [], ◌∷◌, ◌++◌, take, length, get_or, false}
use Rattle.std.proofs.lemmas.Int.{ints}
use Rattle.std.specs.Prelude.{ℤ, pos, ◌-ℤ◌, ◌+ℤ◌, ◌≤ℤ◌}
use Rattle.ivl_laws.specs.Sets.{IsBetween}
use Rattle.ivl_laws.specs.Runs.{Covers}
use Rattle.ivl_laws.proofs.Merging.{covers-append, covers-append_left, covers-append_right}
use Rattle.ivl_laws.specs.Bounds.{IsBoundRange}
use Rattle.ivl_store.proofs.Lists.{covers_next}
use Rattle.ivl_rules.specs.NarrowedSets.{IsSmall}
use Rattle.ivl_rules.proofs.Windows.{IsClamped}
use lib.Signed.{lt_z}
use mir.Syntax.{w128}
use mir.Val.{of_z, to_z}

-- ---- numbers that are passed as an `i128`

pub sum_is : (whole : ℤ × ℤ) (a by n l : ℤ) → IsBoundRange whole → whole.0 ≤ℤ a → a ≤ℤ whole.1 → IsSmall by → n ≡ l → l ≡ a
    → to_z w128 (of_z w128 (to_z w128 (of_z w128 n) +ℤ to_z w128 (of_z w128 by))) ≡ a +ℤ by
sum_is whole a by n l r h k s e f =
    let low = r.low_at_least in let high = r.high_at_most in let u = s.0 in let v = s.1 in omega (arith, ints)

pub difference_is : (whole : ℤ × ℤ) (a by n l : ℤ) → IsBoundRange whole → whole.0 ≤ℤ a → a ≤ℤ whole.1 → IsSmall by → n ≡ l → l ≡ a
    → to_z w128 (of_z w128 (to_z w128 (of_z w128 n) -ℤ to_z w128 (of_z w128 by))) ≡ a -ℤ by
difference_is whole a by n l r h k s e f =
    let low = r.low_at_least in let high = r.high_at_most in let u = s.0 in let v = s.1 in omega (arith, ints)

pub number_is : (whole : ℤ × ℤ) (n l a : ℤ) → IsBoundRange whole → whole.0 ≤ℤ a → a ≤ℤ whole.1 → n ≡ l → l ≡ a → to_z w128 (of_z w128 n) ≡ a
number_is whole n l a r h k e f = let low = r.low_at_least in let high = r.high_at_most in omega (arith, ints)

pub not_below : (whole : ℤ × ℤ) (n q l : ℤ) → IsBoundRange whole → lt_z n (to_z w128 (of_z w128 q)) ≡ false → q ≡ l → l ≡ whole.0 → whole.0 ≤ℤ n
not_below whole n q l r t e f = let low = r.low_at_least in let high = r.low_at_most in omega (arith, ints)

pub not_above : (whole : ℤ × ℤ) (n q l : ℤ) → IsBoundRange whole → lt_z (to_z w128 (of_z w128 q)) n ≡ false → q ≡ l → l ≡ whole.1 → n ≤ℤ whole.1
not_above whole n q l r t e f = let low = r.high_at_least in let high = r.high_at_most in omega (arith, ints)

pub moved_together : (a b by : ℤ) → a ≤ℤ b → (a -ℤ by) ≤ℤ (b -ℤ by)
moved_together a b by h = omega (arith, ints)

-- where a run moved by a number is in the range
pub within_clamped : (whole : ℤ × ℤ) (n m r s z : ℤ) → IsClamped whole n r → IsClamped whole m s → whole.0 ≤ℤ n → m ≤ℤ whole.1 → n ≤ℤ z → z ≤ℤ m → IsBetween (r, s) z
within_clamped whole n m r s z f g h k u v = (low f, high g)
  where
    low : IsClamped whole n r → r ≤ℤ z
    low (inl a) = let b = a.1 in omega (arith, ints)
    low (inr (inl a)) = let b = a.0 in absurd (omega (arith, ints))
    low (inr (inr a)) = let b = a.0 in absurd (omega (arith, ints))

    high : IsClamped whole m s → z ≤ℤ s
    high (inl a) = let b = a.1 in omega (arith, ints)
    high (inr (inl a)) = let b = a.0 in absurd (omega (arith, ints))
    high (inr (inr a)) = let b = a.1 in omega (arith, ints)

-- ---- a run that is moved

low_is : (whole : ℤ × ℤ) (n r : ℤ) → IsClamped whole n r → n ≤ℤ whole.1 → (z : ℤ) → (r ≤ℤ z) ↔ ((whole.0 ≤ℤ z) × (n ≤ℤ z))
low_is whole n r (inl k) h z = let a = k.0.0 in let b = k.1 in ((λ u. (omega (arith, ints), omega (arith, ints))), (λ u. let v = u.1 in omega (arith, ints)))
low_is whole n r (inr (inl k)) h z = let a = k.0 in let b = k.1 in ((λ u. (omega (arith, ints), omega (arith, ints))), (λ u. let v = u.0 in omega (arith, ints)))
low_is whole n r (inr (inr k)) h z = let a = k.0 in absurd (omega (arith, ints))

high_is : (whole : ℤ × ℤ) (n r : ℤ) → IsClamped whole n r → whole.0 ≤ℤ n → (z : ℤ) → (z ≤ℤ r) ↔ ((z ≤ℤ whole.1) × (z ≤ℤ n))
high_is whole n r (inl k) h z = let a = k.0.1 in let b = k.1 in ((λ u. (omega (arith, ints), omega (arith, ints))), (λ u. let v = u.1 in omega (arith, ints)))
high_is whole n r (inr (inl k)) h z = let a = k.0 in absurd (omega (arith, ints))
high_is whole n r (inr (inr k)) h z = let a = k.0 in let b = k.1 in ((λ u. (omega (arith, ints), omega (arith, ints))), (λ u. let v = u.0 in omega (arith, ints)))

pub moved_is : (whole p run : ℤ × ℤ) (n m r s by : ℤ) → p ≡ (r, s) → n ≡ run.0 +ℤ by → m ≡ run.1 +ℤ by → n ≤ℤ whole.1 → whole.0 ≤ℤ m → IsClamped whole n r → IsClamped whole m s
    → (z : ℤ) → IsBetween p z ↔ (IsBetween whole z × IsBetween run (z -ℤ by))
moved_is whole p run n m r s by e en em hn hm fr fs z =
    let a = low_is whole n r fr hn z in let b = high_is whole m s fs hm z in
    rw e (
      (λ h. let u = a.0 h.0 in let v = b.0 h.1 in let x = u.1 in let y = v.1 in ((u.0, v.0), (omega (arith, ints), omega (arith, ints)))),
      (λ h. let x = h.1.0 in let y = h.1.1 in (a.1 (h.0.0, omega (arith, ints)), b.1 (h.0.1, omega (arith, ints)))),
    )

-- one more of them
pub moved_more : (whole : ℤ × ℤ) (L items items' : List (ℤ × ℤ)) (i : ℕ) (p q : ℤ × ℤ) (by : ℤ) → i < length L → p ≡ get_or L i p → items' ≡ items ++ q ∷ []
    → ((z : ℤ) → IsBetween q z ↔ (IsBetween whole z × IsBetween p (z -ℤ by))) → ((z : ℤ) → Covers items z ↔ (IsBetween whole z × Covers (take i L) (z -ℤ by)))
    → (z : ℤ) → Covers items' z ↔ (IsBetween whole z × Covers (take (i + 1) L) (z -ℤ by))
moved_more whole L items items' i p q by lt is e one so_far z =
    let n = covers_next L i p lt is (z -ℤ by) in
    rw e (
      (λ h. elim (covers-append items (q ∷ []) z h) [
        | inl k ↦ (let u = (so_far z).0 k in (u.0, n.1 (inl u.1)))
        | inr k ↦ elim k [ inl b ↦ (let u = (one z).0 b in (u.0, n.1 (inr u.1))) | inr none ↦ absurd none ]
      ]),
      (λ h. elim (n.0 h.1) [
        | inl k ↦ covers-append_left items (q ∷ []) z ((so_far z).1 (h.0, k))
        | inr b ↦ covers-append_right items (q ∷ []) z (inl ((one z).1 (h.0, b)))
      ]),
    )

-- ---- a set that is moved

pub passed_is : (n by : ℤ) → IsSmall n → n ≡ by → to_z w128 (of_z w128 n) ≡ by
passed_is n by s e = let u = s.0 in let v = s.1 in omega (arith, ints)

pub moved_back : (Y : List (ℤ × ℤ)) (m by z : ℤ) → m ≡ (pos 0 -ℤ by) → Covers Y (z -ℤ m) ↔ ((b : ℤ) × Covers Y b × ((z +ℤ by) ≡ b))
moved_back Y m by z e = (
  λ h. (z -ℤ m, h, omega (arith, ints)),
  λ h. let f = h.2 in let g : h.0 ≡ z -ℤ m = omega (arith, ints) in subst (Covers Y) g h.1,
)

pub moved_forth : (X : List (ℤ × ℤ)) (m by z : ℤ) → m ≡ by → Covers X (z -ℤ m) ↔ ((a : ℤ) × Covers X a × ((a +ℤ by) ≡ z))
moved_forth X m by z e = (
  λ h. (z -ℤ m, h, omega (arith, ints)),
  λ h. let f = h.2 in let g : h.0 ≡ z -ℤ m = omega (arith, ints) in subst (Covers X) g h.1,
)
