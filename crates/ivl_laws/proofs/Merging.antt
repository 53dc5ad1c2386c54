-- Lemmas for a walk that builds a maximal list from left to right.
use Rattle.std.proofs.Common.{◌≡◌, ◌⊎◌, ◌↔◌, inl, inr, ⊎_elim, ℤ, pos, ◌+ℤ◌, ◌≤ℤ◌, List, [], ◌∷◌, ◌++◌, set, length, refl, ap, arith, get_or, length-append, subst, sym, ◌∙◌, suc, zero, ℕ, ◌+◌}
use Rattle.std.proofs.lemmas.Int.{ints, clamps, by_lt_z}
use Rattle.std.specs.Int.{int_min, int_max}
use Rattle.ivl_laws.specs.Sets.{IsBetween, Union}
use Rattle.ivl_laws.specs.Runs.{Covers, StartsAfter, StartsBy, IsMaximal, IsRunsOf}
use Rattle.ivl_laws.proofs.Runs.{pair_same}

-- ---- joined lists

pub covers-append_left : (L M : List (ℤ × ℤ)) (z : ℤ) → Covers L z → Covers (L ++ M) z
covers-append_left [] M z c = absurd c
covers-append_left (p ∷ L) M z (inl b) = inl b
covers-append_left (p ∷ L) M z (inr c) = inr (covers-append_left L M z c)

pub covers-append_right : (L M : List (ℤ × ℤ)) (z : ℤ) → Covers M z → Covers (L ++ M) z
covers-append_right [] M z c = c
covers-append_right (p ∷ L) M z c = inr (covers-append_right L M z c)

pub covers-append : (L M : List (ℤ × ℤ)) (z : ℤ) → Covers (L ++ M) z → Covers L z ⊎ Covers M z
covers-append [] M z c = inr c
covers-append (p ∷ L) M z (inl b) = inl (inl b)
covers-append (p ∷ L) M z (inr c) = ⊎_elim (λ a. inl (inr a)) (λ b. inr b) (covers-append L M z c)

-- a list that is not empty has a last element
pub last_splits : {X : Type 0} (x : X) (xs : List X) → (ys : List X) × (y : X) × (x ∷ xs ≡ ys ++ y ∷ [])
last_splits x [] = ([], x, refl)
last_splits {X} x (w ∷ xs) = let (ys, y, e) = last_splits w xs in (x ∷ ys, y, ap {B = List X} (λ r. x ∷ r) e)

-- ---- where the pairs start

pub StartsBy-more : (L : List (ℤ × ℤ)) (m n : ℤ) → StartsBy m L → m ≤ℤ n → StartsBy n L
StartsBy-more [] m n s h = tt
StartsBy-more (p ∷ L) m n s h = let a = s.0 in (omega (arith, ints), StartsBy-more L m n s.1 h)

pub StartsBy-push : (L : List (ℤ × ℤ)) (q : ℤ × ℤ) (n : ℤ) → StartsBy n L → q.0 ≤ℤ n → StartsBy n (L ++ q ∷ [])
StartsBy-push [] q n s h = (h, tt)
StartsBy-push (p ∷ L) q n s h = (s.0, StartsBy-push L q n s.1 h)

-- ---- one more run at the end

pub StartsAfter-push : (u : ℤ) (L : List (ℤ × ℤ)) (p : ℤ × ℤ) (M : List (ℤ × ℤ)) → StartsAfter u (L ++ p ∷ []) → StartsAfter u ((L ++ p ∷ []) ++ M)
StartsAfter-push u [] p M s = s
StartsAfter-push u (q ∷ L) p M s = s

pub StartsAfter-joined : (u : ℤ) (L : List (ℤ × ℤ)) (p : ℤ × ℤ) (v : ℤ) → StartsAfter u (L ++ p ∷ []) → StartsAfter u (L ++ (p.0, v) ∷ [])
StartsAfter-joined u [] p v s = s
StartsAfter-joined u (q ∷ L) p v s = s

pub maximal_apart : (L : List (ℤ × ℤ)) (p q : ℤ × ℤ) → IsMaximal (L ++ p ∷ []) → (p.1 +ℤ pos 2) ≤ℤ q.0 → q.0 ≤ℤ q.1 → IsMaximal ((L ++ p ∷ []) ++ q ∷ [])
maximal_apart [] p q m h k = (m.0, h, (k, tt, tt))
maximal_apart (r ∷ L) p q m h k = (m.0, StartsAfter-push r.1 L p (q ∷ []) m.1, maximal_apart L p q m.2 h k)

pub maximal_joined : (L : List (ℤ × ℤ)) (p : ℤ × ℤ) (u : ℤ) → IsMaximal (L ++ p ∷ []) → p.1 ≤ℤ u → IsMaximal (L ++ (p.0, u) ∷ [])
maximal_joined [] p u m h = let a = m.0 in (omega (arith, ints), tt, tt)
maximal_joined (r ∷ L) p u m h = (m.0, StartsAfter-joined r.1 L p u m.1, maximal_joined L p u m.2 h)

-- onto no run
pub first_run : (q : ℤ × ℤ) → q.0 ≤ℤ q.1 → IsRunsOf (q ∷ []) (Union (Covers []) (IsBetween q))
first_run q h = record {
  maximal = (h, tt, tt);
  members = λ z. (⊎_elim (λ b. inr b) (λ c. absurd c), ⊎_elim (λ c. absurd c) (λ b. inl b));
}

-- a run that leaves a number free after the last one
pub run_apart : (L : List (ℤ × ℤ)) (p q : ℤ × ℤ) → IsMaximal (L ++ p ∷ []) → (p.1 +ℤ pos 2) ≤ℤ q.0 → q.0 ≤ℤ q.1 →
    IsRunsOf ((L ++ p ∷ []) ++ q ∷ []) (Union (Covers (L ++ p ∷ [])) (IsBetween q))
run_apart L p q m h k = record {
  maximal = maximal_apart L p q m h k;
  members = λ z. (
    (λ c. ⊎_elim (λ a. inl a) (⊎_elim (λ b. inr b) (λ n. absurd n)) (covers-append (L ++ p ∷ []) (q ∷ []) z c)),
    ⊎_elim (λ c. covers-append_left (L ++ p ∷ []) (q ∷ []) z c) (λ b. covers-append_right (L ++ p ∷ []) (q ∷ []) z (inl b)),
  );
}

-- two runs that overlap or touch are one
pub joined_between : (p q : ℤ × ℤ) (z : ℤ) → p.0 ≤ℤ q.0 → q.0 ≤ℤ (p.1 +ℤ pos 1) → p.0 ≤ℤ p.1 → IsBetween (p.0, int_max p.1 q.1) z ↔ (IsBetween p z ⊎ IsBetween q z)
joined_between p q z h k o = (there, back)
  where
    there : IsBetween (p.0, int_max p.1 q.1) z → IsBetween p z ⊎ IsBetween q z
    there (a, b) = by_lt_z p.1 z (λ lt. inr (omega (arith, ints), omega (arith, ints, clamps))) (λ le. inl (a, le))

    back : IsBetween p z ⊎ IsBetween q z → IsBetween (p.0, int_max p.1 q.1) z
    back (inl (a, b)) = (a, omega (arith, ints, clamps))
    back (inr (a, b)) = (omega (arith, ints), omega (arith, ints, clamps))

pub last_open : (L : List (ℤ × ℤ)) (p : ℤ × ℤ) → IsMaximal (L ++ p ∷ []) → p.0 ≤ℤ p.1
last_open [] p m = m.0
last_open (r ∷ L) p m = last_open L p m.2

-- a run that starts no lower than the last one and overlaps or touches it
pub run_joined : (L : List (ℤ × ℤ)) (p q : ℤ × ℤ) → IsMaximal (L ++ p ∷ []) → p.0 ≤ℤ q.0 → q.0 ≤ℤ (p.1 +ℤ pos 1) →
    IsRunsOf (L ++ (p.0, int_max p.1 q.1) ∷ []) (Union (Covers (L ++ p ∷ [])) (IsBetween q))
run_joined L p q m h k = record {
  maximal = maximal_joined L p (int_max p.1 q.1) m (omega (arith, ints, clamps));
  members = λ z. (back z, there z);
}
  where
    both : (z : ℤ) → IsBetween (p.0, int_max p.1 q.1) z ↔ (IsBetween p z ⊎ IsBetween q z)
    both z = joined_between p q z h k (last_open L p m)

    there : (z : ℤ) → Covers (L ++ p ∷ []) z ⊎ IsBetween q z → Covers (L ++ (p.0, int_max p.1 q.1) ∷ []) z
    there z (inl c) = ⊎_elim
        (λ a. covers-append_left L ((p.0, int_max p.1 q.1) ∷ []) z a)
        (⊎_elim (λ b. covers-append_right L ((p.0, int_max p.1 q.1) ∷ []) z (inl ((both z).1 (inl b)))) (λ n. absurd n))
        (covers-append L (p ∷ []) z c)
    there z (inr b) = covers-append_right L ((p.0, int_max p.1 q.1) ∷ []) z (inl ((both z).1 (inr b)))

    back : (z : ℤ) → Covers (L ++ (p.0, int_max p.1 q.1) ∷ []) z → Covers (L ++ p ∷ []) z ⊎ IsBetween q z
    back z c = ⊎_elim
        (λ a. inl (covers-append_left L (p ∷ []) z a))
        (⊎_elim (λ b. ⊎_elim (λ x. inl (covers-append_right L (p ∷ []) z (inl x))) (λ y. inr y) ((both z).0 b)) (λ n. absurd n))
        (covers-append L ((p.0, int_max p.1 q.1) ∷ []) z c)

-- a run within the last one adds nothing
pub run_within : (L : List (ℤ × ℤ)) (p q : ℤ × ℤ) → IsMaximal (L ++ p ∷ []) → p.0 ≤ℤ q.0 → q.1 ≤ℤ p.1 → IsRunsOf (L ++ p ∷ []) (Union (Covers (L ++ p ∷ [])) (IsBetween q))
run_within L p q m h k = record {
  maximal = m;
  members = λ z. ((λ c. inl c), ⊎_elim (λ c. c) (λ b. covers-append_right L (p ∷ []) z (inl (let l = b.0 in let u = b.1 in (omega (arith, ints), omega (arith, ints))))));
}

-- ---- the same, where the last run is read by its place

pub get_or-last : {X : Type 0} (xs : List X) (x d : X) (k : ℕ) → k + 1 ≡ length (xs ++ x ∷ []) → get_or (xs ++ x ∷ []) k d ≡ x
get_or-last [] x d zero e = refl
get_or-last [] x d (suc k) e = absurd (omega arith)
get_or-last (y ∷ xs) x d zero e = let n = length-append xs (x ∷ []) in absurd (omega arith)
get_or-last (y ∷ xs) x d (suc k) e = get_or-last xs x d k (omega arith)

pub set_at_last : {X : Type 0} (xs : List X) (x y : X) (k : ℕ) → k + 1 ≡ length (xs ++ x ∷ []) → set (xs ++ x ∷ []) k y ≡ xs ++ y ∷ []
set_at_last [] x y zero e = refl
set_at_last [] x y (suc k) e = absurd (omega arith)
set_at_last (w ∷ xs) x y zero e = let n = length-append xs (x ∷ []) in absurd (omega arith)
set_at_last {X} (w ∷ xs) x y (suc k) e = ap {B = List X} (λ r. w ∷ r) (set_at_last xs x y k (omega arith))

-- a list that has a last place is some list with one more element
pub by_last : (P : List (ℤ × ℤ) → Type 0) (L : List (ℤ × ℤ)) (k : ℕ) → k + 1 ≡ length L → ((M : List (ℤ × ℤ)) (p : ℤ × ℤ) → k + 1 ≡ length (M ++ p ∷ []) → P (M ++ p ∷ [])) → P L
by_last P [] k e f = absurd (omega arith)
by_last P (x ∷ xs) k e f =
    let (M, p, same) = last_splits x xs in
    subst P (sym same) (f M p (subst (λ (l : List (ℤ × ℤ)). k + 1 ≡ length l) same e))

pub StartsBy-at_last : (L : List (ℤ × ℤ)) (k : ℕ) (d : ℤ × ℤ) (n : ℤ) → k + 1 ≡ length L → StartsBy n L → (get_or L k d).0 ≤ℤ n
StartsBy-at_last [] k d n e s = absurd (omega arith)
StartsBy-at_last (p ∷ L) zero d n e s = s.0
StartsBy-at_last (p ∷ L) (suc k) d n e s = StartsBy-at_last L k d n (omega arith) s.1

pub run_apart_at : (L : List (ℤ × ℤ)) (k : ℕ) (d q : ℤ × ℤ) → k + 1 ≡ length L → IsMaximal L → ((get_or L k d).1 +ℤ pos 2) ≤ℤ q.0 → q.0 ≤ℤ q.1 →
    IsRunsOf (L ++ q ∷ []) (Union (Covers L) (IsBetween q))
run_apart_at L k d q e = by_last (λ l. IsMaximal l → ((get_or l k d).1 +ℤ pos 2) ≤ℤ q.0 → q.0 ≤ℤ q.1 → IsRunsOf (l ++ q ∷ []) (Union (Covers l) (IsBetween q))) L k e
    (λ M p f m h o. run_apart M p q m (subst (λ (r : ℤ × ℤ). (r.1 +ℤ pos 2) ≤ℤ q.0) (get_or-last M p d k f) h) o)

pub run_joined_at : (L : List (ℤ × ℤ)) (k : ℕ) (d q r : ℤ × ℤ) → k + 1 ≡ length L → IsMaximal L → StartsBy q.0 L → q.0 ≤ℤ ((get_or L k d).1 +ℤ pos 1) →
    r.0 ≡ (get_or L k d).0 → r.1 ≡ int_max (get_or L k d).1 q.1 →
    IsRunsOf (set L k r) (Union (Covers L) (IsBetween q))
run_joined_at L k d q r e m s h low high = by_last
    (λ l. IsMaximal l → StartsBy q.0 l → q.0 ≤ℤ ((get_or l k d).1 +ℤ pos 1) → r.0 ≡ (get_or l k d).0 → r.1 ≡ int_max (get_or l k d).1 q.1 → IsRunsOf (set l k r) (Union (Covers l) (IsBetween q)))
    L k e by m s h low high
  where
    by : (M : List (ℤ × ℤ)) (p : ℤ × ℤ) → k + 1 ≡ length (M ++ p ∷ []) → IsMaximal (M ++ p ∷ []) → StartsBy q.0 (M ++ p ∷ []) →
        q.0 ≤ℤ ((get_or (M ++ p ∷ []) k d).1 +ℤ pos 1) → r.0 ≡ (get_or (M ++ p ∷ []) k d).0 → r.1 ≡ int_max (get_or (M ++ p ∷ []) k d).1 q.1 →
        IsRunsOf (set (M ++ p ∷ []) k r) (Union (Covers (M ++ p ∷ [])) (IsBetween q))
    by M p f m s h low high =
        let last = get_or-last M p d k f in
        let lower = subst (λ (t : ℤ × ℤ). r.0 ≡ t.0) last low in
        let upper = subst (λ (t : ℤ × ℤ). r.1 ≡ int_max t.1 q.1) last high in
        let start = subst (λ (t : ℤ × ℤ). t.0 ≤ℤ q.0) last (StartsBy-at_last (M ++ p ∷ []) k d q.0 f s) in
        let near = subst (λ (t : ℤ × ℤ). q.0 ≤ℤ (t.1 +ℤ pos 1)) last h in
        subst (λ (l : List (ℤ × ℤ)). IsRunsOf l (Union (Covers (M ++ p ∷ [])) (IsBetween q)))
        (ap (λ (t : ℤ × ℤ). M ++ t ∷ []) (sym (pair_same r (p.0, int_max p.1 q.1) lower upper)) ∙ sym (set_at_last M p r k f))
        (run_joined M p q m start near)

pub run_within_at : (L : List (ℤ × ℤ)) (k : ℕ) (d q : ℤ × ℤ) → k + 1 ≡ length L → IsMaximal L → StartsBy q.0 L → q.1 ≤ℤ (get_or L k d).1 → IsRunsOf L (Union (Covers L) (IsBetween q))
run_within_at L k d q e m s h = by_last
    (λ l. IsMaximal l → StartsBy q.0 l → q.1 ≤ℤ (get_or l k d).1 → IsRunsOf l (Union (Covers l) (IsBetween q)))
    L k e by m s h
  where
    by : (M : List (ℤ × ℤ)) (p : ℤ × ℤ) → k + 1 ≡ length (M ++ p ∷ []) → IsMaximal (M ++ p ∷ []) → StartsBy q.0 (M ++ p ∷ []) → q.1 ≤ℤ (get_or (M ++ p ∷ []) k d).1 → IsRunsOf (M ++ p ∷ []) (Union (Covers (M ++ p ∷ [])) (IsBetween q))
    by M p f m s h =
        let last = get_or-last M p d k f in
        run_within M p q m (subst (λ (t : ℤ × ℤ). t.0 ≤ℤ q.0) last (StartsBy-at_last (M ++ p ∷ []) k d q.0 f s)) (subst (λ (t : ℤ × ℤ). q.1 ≤ℤ t.1) last h)

-- a new upper end at some place changes no start
pub StartsBy-set : (L : List (ℤ × ℤ)) (k : ℕ) (r : ℤ × ℤ) (n : ℤ) → StartsBy n L → r.0 ≤ℤ n → StartsBy n (set L k r)
StartsBy-set [] k r n s h = tt
StartsBy-set (p ∷ L) zero r n s h = (h, s.1)
StartsBy-set (p ∷ L) (suc k) r n s h = (s.0, StartsBy-set L k r n s.1 h)

-- ---- what two runs have in common

-- the numbers from the later start to the earlier end
pub overlap_between : (p q : ℤ × ℤ) (z : ℤ) → IsBetween (int_max p.0 q.0, int_min p.1 q.1) z ↔ (IsBetween p z × IsBetween q z)
overlap_between p q z = (
  (λ b. let l = b.0 in let u = b.1 in ((omega (arith, ints, clamps), omega (arith, ints, clamps)), (omega (arith, ints, clamps), omega (arith, ints, clamps)))),
  (λ b. let w = b.0.0 in let x = b.0.1 in let y = b.1.0 in let v = b.1.1 in (omega (arith, ints, clamps), omega (arith, ints, clamps))),
)
