-- What a merge keeps that writes runs from left to right with no branch on their values: the run under way is the last that is written.
use Rattle.std.proofs.Common.{◌≡◌, ◌↔◌, Bool, true, false, IsTrue, ℕ, zero, suc, ◌+◌, ◌-◌, ℤ, pos, ◌+ℤ◌, ◌≤ℤ◌, List, [], ◌∷◌, ◌++◌, Some, length, take, get_or, set, refl, ap, sym, subst, ◌∙◌, inl, inr, arith}
use Rattle.std.proofs.Math.Seq.{take-length}
use Rattle.std.proofs.lemmas.Int.{ints, clamps, by_lt_z}
use Rattle.std.proofs.lemmas.List.{get_or_push, length_push}
use Rattle.std.proofs.lemmas.Option.{get_or_from_slice_get, slice_get-get_or}
use Rattle.std.specs.Int.{from_bool, int_max}
use Rattle.std.specs.Prelude.{cond, slice_get}
use Rattle.ivl_laws.specs.Sets.{Union}
use Rattle.ivl_laws.specs.Runs.{AddsRun, Covers, IsMaximal, IsRunsOf, StartsBy}
use Rattle.ivl_laws.specs.Walks.{TakesFirst}
use Rattle.ivl_laws.proofs.Adding as adding
use Rattle.ivl_laws.proofs.Adding.{adds_first, adds_joined_at, adds_past_last, untrue}
use Rattle.ivl_laws.proofs.Runs.{pair_same}
use Rattle.ivl_laws.proofs.Walks.{IsUniting, StartsBefore, uniting_begins, uniting_ends, uniting_next}

-- ---- the last of a list

pub last_place : (L : List (ℤ × ℤ)) (p : ℤ × ℤ) → Some p ≡ slice_get L (length L - 1) → (length L - 1) + 1 ≡ length L
last_place [] p e = absurd (cc)
last_place (x ∷ L) p e = omega arith

pub last_is_written : (L : List (ℤ × ℤ)) (p : ℤ × ℤ) → Some p ≡ slice_get (L ++ p ∷ []) (length (L ++ p ∷ []) - 1)
last_is_written L p =
    let more = length_push L p in
    let at : length L ≡ length (L ++ p ∷ []) - 1 = omega (arith, more) in
    sym (slice_get-get_or (L ++ p ∷ []) (length (L ++ p ∷ []) - 1) p (omega (arith, more)) ∙ ap (λ (x : ℤ × ℤ). Some x) (get_or_push L p p (length (L ++ p ∷ []) - 1) at))

pub last_is_open : (L : List (ℤ × ℤ)) (p : ℤ × ℤ) → Some p ≡ slice_get L (length L - 1) → IsMaximal L → p.0 ≤ℤ p.1
last_is_open L p e m = adding.last_is_open L (length L - 1) p (last_place L p e) (sym (get_or_from_slice_get L (length L - 1) p p (sym e))) m

last_is_set : (L : List (ℤ × ℤ)) (k : ℕ) (r : ℤ × ℤ) → k + 1 ≡ length L → set L k r ≡ take k L ++ r ∷ []
last_is_set [] k r e = absurd (omega arith)
last_is_set (p ∷ []) zero r e = refl
last_is_set (p ∷ q ∷ L) zero r e = absurd (omega arith)
last_is_set (p ∷ L) (suc k) r e = ap {B = List (ℤ × ℤ)} (λ M. p ∷ M) (last_is_set L k r (omega arith))

pub same_conds : (test : Bool) {a b m n : ℤ} → a ≡ m → b ≡ n → cond test a b ≡ cond test m n
same_conds test e f = cc

-- ---- one run more, by a test whether it joins the last one, p: r is the last then

pub adds_by_test : (joined : Bool) (L : List (ℤ × ℤ)) (p q r : ℤ × ℤ) (n : ℕ) → (IsTrue joined ↔ (q.0 ≤ℤ (p.1 +ℤ pos 1))) → Some p ≡ slice_get L (length L - 1) →
    IsMaximal L → StartsBy q.0 L → q.0 ≤ℤ q.1 → r.0 ≡ cond joined p.0 q.0 → r.1 ≡ int_max p.1 q.1 → n ≡ length L - from_bool joined → AddsRun L q (take n L ++ r ∷ [])
adds_by_test true L p q r n near e m s o low high f =
    let at = last_place L p e in
    let last : get_or L (length L - 1) p ≡ p = get_or_from_slice_get L (length L - 1) p p (sym e) in
    let close : q.0 ≤ℤ (p.1 +ℤ pos 1) = near.0 refl in
    let P : ℤ × ℤ → Type 0 = λ t. q.0 ≤ℤ (t.1 +ℤ pos 1) in
    let Q : ℤ × ℤ → Type 0 = λ t. r.0 ≡ t.0 in
    let R : ℤ × ℤ → Type 0 = λ t. r.1 ≡ int_max t.1 q.1 in
    let same : n ≡ length L - 1 = f in
    subst (λ (M : List (ℤ × ℤ)). AddsRun L q M) (last_is_set L (length L - 1) r at ∙ ap (λ (i : ℕ). take i L ++ r ∷ []) (sym same))
    (adds_joined_at L (length L - 1) p q r at m s (subst P (sym last) close) (subst Q (sym last) low) (subst R (sym last) high))
adds_by_test false L p q r n near e m s o low high f =
    let at = last_place L p e in
    let last : get_or L (length L - 1) p ≡ p = get_or_from_slice_get L (length L - 1) p p (sym e) in
    let far : ¬ (q.0 ≤ℤ (p.1 +ℤ pos 1)) = untrue false refl near in
    let upper : r.1 ≡ q.1 = by_far far in
    let same : n ≡ length L = omega (arith, f) in
    let all : take n L ≡ L = ap (λ (i : ℕ). take i L) same ∙ take-length L in
    subst (λ (M : List (ℤ × ℤ)). AddsRun L q M) (sym (ap (λ (M : List (ℤ × ℤ)). M ++ r ∷ []) all ∙ ap (λ (t : ℤ × ℤ). L ++ t ∷ []) (pair_same r q low upper)))
    (adds_past_last L (length L - 1) p q at (sym last) m s o far)
  where
    by_far : ¬ (q.0 ≤ℤ (p.1 +ℤ pos 1)) → r.1 ≡ q.1
    by_far far = by_lt_z (p.1 +ℤ pos 1) q.0 (λ lt. omega (arith, ints, clamps, high, o, lt)) (λ le. absurd (far le))

-- ---- the run that starts first is taken by a test

pub taken_starts : (W A B A' B' : List (ℤ × ℤ)) (p : ℤ × ℤ) (S : ℤ → Type 0) → IsUniting W A B S → TakesFirst A B A' B' p → StartsBy p.0 W
taken_starts W A B A' B' p S u (inl (e, f, h)) = subst (λ (L : List (ℤ × ℤ)). StartsBefore W L) e u.before_first
taken_starts W A B A' B' p S u (inr (e, f, h)) = subst (λ (L : List (ℤ × ℤ)). StartsBefore W L) e u.before_second

pub taken_is_open : (A B A' B' : List (ℤ × ℤ)) (p : ℤ × ℤ) → IsMaximal A → IsMaximal B → TakesFirst A B A' B' p → p.0 ≤ℤ p.1
taken_is_open A B A' B' p m n (inl (e, f, h)) = (subst IsMaximal e m).0
taken_is_open A B A' B' p m n (inr (e, f, h)) = (subst IsMaximal e n).0

-- ---- the first and the last step

pub unites_first : (V W A B A' B' : List (ℤ × ℤ)) (p : ℤ × ℤ) → V ≡ [] → W ≡ V ++ p ∷ [] → IsMaximal A → IsMaximal B → TakesFirst A B A' B' p →
    IsUniting W A' B' (Union (Covers A) (Covers B))
unites_first V W A B A' B' p e f m n t =
    let one : W ≡ p ∷ [] = f ∙ ap (λ (L : List (ℤ × ℤ)). L ++ p ∷ []) e in
    let adds : AddsRun [] p W = subst (λ (M : List (ℤ × ℤ)). AddsRun [] p M) (sym one) (adds_first p (taken_is_open A B A' B' p m n t)) in
    uniting_next [] W A B A' B' p (Union (Covers A) (Covers B)) (uniting_begins A B m n) t adds.runs adds.starts

-- at the end both walks have nothing left
pub all_united : (W A B : List (ℤ × ℤ)) (S : ℤ → Type 0) → A ≡ [] → B ≡ [] → IsUniting W A B S → IsRunsOf W S
all_united W A B S e f u = uniting_ends W S (subst (λ (M : List (ℤ × ℤ)). IsUniting W [] M S) f (subst (λ (M : List (ℤ × ℤ)). IsUniting W M B S) e u))

pub both_ends : {a b m n : ℤ} → a ≡ m → b ≡ n → int_max a b ≡ int_max m n
both_ends e f = cc
