-- What one look tells of the runs on one side of it.
use Rattle.std.proofs.Common.{◌≡◌, ℕ, zero, suc, ◌+◌, ◌-◌, ◌*◌, ◌^◌, ◌<◌, ◌≤◌, ℤ, ◌≤ℤ◌, ◌<ℤ◌, Bool, IsTrue, ◌↔◌, List, [], ◌∷◌, length, get_or, slice_get, Some, take, drop, ⊎_elim, arith, refl, sym, subst, inl, inr, true, false}
use Rattle.std.specs.Prelude.{cond, int_lt, IsSomeAnd, Option}
use Rattle.std.proofs.lemmas.Int.{ints, by_lt_z}
use Rattle.std.proofs.Math.Nat.{pow-le-pow_right}
use Rattle.std.proofs.lemmas.Bool.{cases_lt}
use native.Mathlib.Numerals.{unary_clauses}
use Rattle.std.proofs.lemmas.Option.{get_or_from_slice_get}
use Rattle.ivl_laws.specs.Sets.{IsBetween}
use Rattle.ivl_laws.specs.Runs.{Covers, IsMaximal, runs_below}
use Rattle.ivl_laws.proofs.Adding.{untrue}
use Rattle.ivl_places.specs.Places.{EndBelow, StartAbove}
use Rattle.ivl_laws.proofs.Orders.{int_lt_true}

pub int_lt_false : (a b : ℤ) → b <ℤ a → int_lt a b ≡ false
int_lt_false a b h = grind (arith, ints)

-- half as many numbers take one digit less
pub shrink : (n s rest : ℕ) → 0 < n → n < 2 ^ rest → 2 * s ≤ n → (r : ℕ) × (rest ≡ r + 1) × (s < 2 ^ r)
shrink n s zero h k l = absurd (omega (arith, k))
shrink n s (suc r) h k l = (r, omega arith, let k' = simp unary_clauses at k in omega (arith, k', l))

pub above_after : (v : ℤ) (r : ℤ × ℤ) (L : List (ℤ × ℤ)) → v <ℤ r.0 → IsMaximal (r ∷ L) → StartAbove v L
above_after v r [] h m = tt
above_after v r (q ∷ L) h m =
    let k : v <ℤ q.0 = omega (arith, ints, h, m.0, m.1) in
    (k, above_after v q L k m.2)

pub above_from : (v : ℤ) (L : List (ℤ × ℤ)) (i : ℕ) (d : ℤ × ℤ) → i < length L → v <ℤ (get_or L i d).0 → IsMaximal L → StartAbove v (drop i L)
above_from v [] i d h b m = absurd (omega arith)
above_from v (r ∷ L) zero d h b m = (b, above_after v r L b m)
above_from v (r ∷ L) (suc i) d h b m = above_from v L i d (omega arith) b m.2

later_end : (r : ℤ × ℤ) (L : List (ℤ × ℤ)) (i : ℕ) (d : ℤ × ℤ) → i < length L → IsMaximal (r ∷ L) → r.1 ≤ℤ (get_or L i d).1
later_end r [] i d h m = absurd (omega arith)
later_end r (q ∷ L) zero d h m = omega (arith, ints, m.1, m.2.0)
later_end r (q ∷ L) (suc i) d h m =
    let k = later_end q L i d (omega arith) m.2 in
    omega (arith, ints, m.1, m.2.0, k)

pub below_to : (v : ℤ) (L : List (ℤ × ℤ)) (i : ℕ) (d : ℤ × ℤ) → i < length L → (get_or L i d).1 <ℤ v → IsMaximal L → EndBelow v (take (suc i) L)
below_to v [] i d h b m = absurd (omega arith)
below_to v (r ∷ L) zero d h b m = (b, tt)
below_to v (r ∷ L) (suc i) d h b m =
    (let k = later_end r L i d (omega arith) m in omega (arith, ints, k, b), below_to v L i d (omega arith) b m.2)

pub none_above : (v : ℤ) (L : List (ℤ × ℤ)) → StartAbove v L → IsMaximal L → (¬ Covers L v) × (runs_below v L ≡ 0)
none_above v [] a m = (λ h. h, refl)
none_above v (r ∷ L) a m =
    let k = none_above v L a.1 m.2 in
    let e : int_lt r.1 v ≡ false = int_lt_false r.1 v (omega (arith, ints, a.0, m.0)) in
    (λ h. elim h [ inl i ↦ omega (arith, ints, i.0, a.0) | inr j ↦ k.0 j ], rw (e, k.1) (omega arith))

pub gap_at : (v : ℤ) (L : List (ℤ × ℤ)) (i : ℕ) → i ≤ length L → EndBelow v (take i L) → StartAbove v (drop i L) → IsMaximal L
    → (¬ Covers L v) × (runs_below v L ≡ i)
gap_at v L zero h b a m = none_above v L a m
gap_at v [] (suc i) h b a m = absurd (omega arith)
gap_at v (r ∷ L) (suc i) h b a m =
    let k = gap_at v L i (omega arith) b.1 a m.2 in
    let e : int_lt r.1 v ≡ true = int_lt_true r.1 v b.0 in
    (λ c. elim c [ inl j ↦ omega (arith, ints, j.1, b.0) | inr j ↦ k.0 j ], rw (e, k.1) (omega arith))

-- where steps were doubled k times, and a place no nearer has so many digits
pub fewer_digits : (k digits far past : ℕ) → far + 1 ≡ 2 ^ k → far ≤ past → past + 1 < 2 ^ digits → k < digits
fewer_digits k digits far past e h l = ⊎_elim (λ less. less)
    (λ more. absurd (let two : 0 < 2 = omega arith in let p = pow-le-pow_right two more in omega (arith, e, h, l, p))) (cases_lt k digits)

pub doubled : (k far : ℕ) → far + 1 ≡ 2 ^ k → far + far + 1 + 1 ≡ 2 ^ (k + 1)
doubled k far e = let more : k + 1 ≡ suc k = omega arith in rw more (simp unary_clauses (omega (arith, e)))

pub above_on : (v : ℤ) (L : List (ℤ × ℤ)) (i k : ℕ) → i ≤ k → StartAbove v (drop i L) → StartAbove v (drop k L)
above_on v [] i zero h a = tt
above_on v [] i (suc k) h a = tt
above_on v (r ∷ L) zero zero h a = a
above_on v (r ∷ L) zero (suc k) h a = above_on v L zero k (omega arith) a.1
above_on v (r ∷ L) (suc i) zero h a = absurd (omega (arith, h))
above_on v (r ∷ L) (suc i) (suc k) h a = above_on v L i k (omega (arith, h)) a

-- a run that has v stands in place k or before it, or v lies below the runs from k on
abbrev pub IsFrom : ℤ → List (ℤ × ℤ) → ℕ → Bool → Type 0
IsFrom v L k true = (i : ℕ) × (i ≤ k) × IsSomeAnd (slice_get L i) (λ run. IsBetween run v)
IsFrom v L k false = StartAbove v (drop k L)

pub is_from : (v : ℤ) (L : List (ℤ × ℤ)) (i k : ℕ) (d : ℤ × ℤ) (t : Bool) → i < length L → i ≤ k → IsMaximal L → slice_get L i ≡ Some d → v ≤ℤ d.1 → (IsTrue t ↔ (d.0 ≤ℤ v)) → IsFrom v L k t
is_from v L i k d true h l m e r c =
    let P : Option (ℤ × ℤ) → Type 0 = λ o. IsSomeAnd o (λ run. IsBetween run v) in
    (i, l, subst P (sym e) (c.0 refl, r))
is_from v L i k d false h l m e r c =
    let Q : ℤ × ℤ → Type 0 = λ r. v <ℤ r.0 in
    above_on v L i k l
    (above_from v L i d h (subst Q (sym (get_or_from_slice_get L i d d e)) (by_lt_z v d.0 (λ lt. lt) (λ le. absurd (untrue false refl c le)))) m)

-- no run before place k has v where they end below it
not_before : (v : ℤ) (L : List (ℤ × ℤ)) (i k : ℕ) → EndBelow v (take k L) → IsSomeAnd (slice_get L i) (λ run. IsBetween run v) → k ≤ i
not_before v [] i k b h = absurd h
not_before v (r ∷ L) i zero b h = omega arith
not_before v (r ∷ L) zero (suc k) b h = absurd (omega (arith, ints, b.0, h.1))
not_before v (r ∷ L) (suc i) (suc k) b h = let l = not_before v L i k b.1 h in omega (arith, l)

pub in_at : (v : ℤ) (L : List (ℤ × ℤ)) (k : ℕ) → EndBelow v (take k L) → IsFrom v L k true → IsSomeAnd (slice_get L k) (λ run. IsBetween run v)
in_at v L k b (i, l, h) =
    let P : ℕ → Type 0 = λ j. IsSomeAnd (slice_get L j) (λ run. IsBetween run v) in
    let e : i ≡ k = let m = not_before v L i k b h in omega (arith, l, m) in
    subst P e h

-- after a look at the last of `half` runs from place k on: the search goes on above it, or up to it
pub goes_on : (v : ℤ) (L M : List (ℤ × ℤ)) (low half left next : ℕ) (run : ℤ × ℤ) (u d : ℤ) (below starts was is : Bool) →
    0 < half → 2 * half ≤ left + 1 → low + left ≤ length L → IsMaximal L → M ≡ L → slice_get M (low + half - 1) ≡ Some run → u ≡ run.1 → d ≡ run.0 →
    (IsTrue below ↔ (u <ℤ v)) → (IsTrue starts ↔ (d ≤ℤ v)) → EndBelow v (take low L) → IsFrom v L (low + left) was →
    next ≡ cond below (low + half) low → is ≡ cond below was starts →
    (low ≤ next) × (next + (left - half) ≤ low + left) × EndBelow v (take next L) × IsFrom v L (next + (left - half)) is
goes_on v L M low half left next run u d true starts was is h two at m same seen eu ed below k b w en ei =
    let Q : ℤ × ℤ → Type 0 = λ r. r.1 <ℤ v in
    let R : ℕ → Type 0 = λ k. EndBelow v (take k L) in
    let S : ℕ → Type 0 = λ k. IsFrom v L k is in
    let i = low + half - 1 in
    let e : slice_get L i ≡ Some run = subst (λ (N : List (ℤ × ℤ)). slice_get N i ≡ Some run) same seen in
    let ends : run.1 <ℤ v = let l = below.0 refl in omega (arith, ints, l, eu) in
    let to = below_to v L i run (omega (arith, h, two, at)) (subst Q (sym (get_or_from_slice_get L i run run e)) ends) m in
    let more : suc i ≡ next = omega (arith, h, en) in
    let still : low + left ≡ next + (left - half) = omega (arith, h, two, en) in (
      omega (arith, en),
      omega (arith, en, h, two),
      subst R more to,
      subst S still (rw ei w),
    )
goes_on v L M low half left next run u d false starts was is h two at m same seen eu ed below k b w en ei =
    let R : ℕ → Type 0 = λ k. EndBelow v (take k L) in
    let S : ℕ → Type 0 = λ k. IsFrom v L k is in
    let i = low + half - 1 in
    let e : slice_get L i ≡ Some run = subst (λ (N : List (ℤ × ℤ)). slice_get N i ≡ Some run) same seen in
    let C : ℤ → Type 0 = λ z. IsTrue starts ↔ (z ≤ℤ v) in
    let reaches : v ≤ℤ run.1 = by_lt_z run.1 v (λ lt. absurd (untrue false refl below (subst (λ z. z <ℤ v) (sym eu) lt))) (λ le. le) in (
      omega (arith, en),
      omega (arith, en),
      subst R (sym en) b,
      rw ei (is_from v L i (next + (left - half)) run starts (omega (arith, h, two, at)) (omega (arith, h, two, en)) m e reaches (subst C ed k)),
    )
