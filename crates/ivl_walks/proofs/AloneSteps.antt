-- One step of the walk over two lists of runs that writes what one of them has alone, in the numbers that the loop computes.
use Rattle.std.proofs.Common.{◌≡◌, ◌⊎◌, ◌↔◌, inl, inr, ⊎_elim, Bool, true, false, IsTrue, ℕ, ◌+◌, ◌-◌, ◌≤◌, ◌<◌, ℤ, pos, ◌+ℤ◌, ◌-ℤ◌, ◌≤ℤ◌, ◌<ℤ◌, List, [], ◌∷◌, ◌++◌, Some, length, take, drop, set, get_or, refl, ap, sym, subst, ◌∙◌, arith}
use Rattle.std.proofs.lemmas.Int.{ints, clamps, by_lt_z}
use Rattle.std.proofs.lemmas.List.{drop_more, take-set}
use Rattle.std.specs.Int.{from_bool, int_max, int_min}
use Rattle.std.specs.Prelude.{◌&&◌, cond, not, slice_get}
use Rattle.ivl_laws.specs.Sets.{HasNone, IsBetween, IsInRange, SameMembers, Union}
use Rattle.ivl_laws.specs.Runs.{Covers, IsMaximal, IsRunListIn, IsRunsOf}
use Rattle.ivl_laws.proofs.Adding.{untrue}
use Rattle.ivl_laws.proofs.Places.{IsMaximal-drop, covers-drop}
use Rattle.ivl_laws.proofs.Merging.{covers-append, covers-append_left, covers-append_right}
use Rattle.ivl_laws.proofs.Results.{append-nil}
use Rattle.ivl_laws.proofs.Runs.{covered_after, covered_from, lower_end, upper_end}
use Rattle.ivl_walks.specs.Order.{IsBelow}
use Rattle.ivl_walks.proofs.Alone.{IsAlone, alone_from, alone_turned, both_next, one_next}
use Rattle.ivl_walks.proofs.MergeState.{IsMaximal-append, adds_none, building_below, building_done, building_ends, building_same}
use Rattle.ivl_walks.proofs.Placing.{MeetsAt, put_is_last, put_run}
use Rattle.ivl_walks.proofs.SymmetricDifferences.{LowerPart, lower_part_is_alone}
use Rattle.ivl_walks.proofs.Trimmed.{trimmed}

-- ---- the first runs of the two lists

-- nothing is computed outside the range
pub record AreHeads (whole p q : ℤ × ℤ) (f : ℤ) : Type 0 where
  pub first : IsInRange whole p
  pub second : IsInRange whole q
  pub first_left : int_max p.0 f ≤ℤ p.1
  pub second_left : int_max q.0 f ≤ℤ q.1

pub at_place : (L : List (ℤ × ℤ)) (i : ℕ) (p : ℤ × ℤ) → i < length L → p ≡ get_or L i p → drop i L ≡ p ∷ drop (i + 1) L
at_place L i p h is = drop_more L i p h ∙ ap (λ (q : ℤ × ℤ). q ∷ drop (i + 1) L) (sym is)

run_in_range : (whole p : ℤ × ℤ) (f : ℤ) (L A : List (ℤ × ℤ)) (i : ℕ) → IsRunListIn whole L → drop i L ≡ p ∷ A → IsMaximal (drop i L) → IsInRange whole p
run_in_range whole p f L A i l e m =
    let o = (subst IsMaximal e m).0 in
    let of : (z : ℤ) → IsBetween p z → IsBetween whole z = λ z b. l.within z (covers-drop L i z (subst (λ (M : List (ℤ × ℤ)). Covers M z) (sym e) (inl b))) in
    ((of p.0 (lower_end p o)).0, (of p.1 (upper_end p o)).1)

pub opened : (L M W A B : List (ℤ × ℤ)) (i j : ℕ) (p q : ℤ × ℤ) (f s : ℤ) (joined : Bool) (S : ℤ → Type 0) → drop i L ≡ p ∷ A → drop j M ≡ q ∷ B →
    IsAlone W (drop i L) (drop j M) f s joined S → IsAlone W (p ∷ A) (q ∷ B) f s joined S
opened L M W A B i j p q f s joined S d e u =
    subst (λ (N : List (ℤ × ℤ)). IsAlone W (p ∷ A) N f s joined S) e (subst (λ (N : List (ℤ × ℤ)). IsAlone W N (drop j M) f s joined S) d u)

pub are_heads : (whole p q : ℤ × ℤ) (f s : ℤ) (joined : Bool) (L M W A B : List (ℤ × ℤ)) (i j : ℕ) (S : ℤ → Type 0) → IsRunListIn whole L → IsRunListIn whole M →
    drop i L ≡ p ∷ A → drop j M ≡ q ∷ B → IsAlone W (p ∷ A) (q ∷ B) f s joined S → AreHeads whole p q f
are_heads whole p q f s joined L M W A B i j S l k d e u = record {
  first = run_in_range whole p f L A i l d (IsMaximal-drop L i l.maximal);
  second = run_in_range whole q f M B j k e (IsMaximal-drop M j k.maximal);
  first_left = u.first.0;
  second_left = u.second.0;
}

-- ---- the numbers

order : (a b : ℤ) → (a <ℤ b) ⊎ ((b <ℤ a) ⊎ (a ≡ b))
order a b = by_lt_z a b (λ lt. inl lt) (λ le. by_lt_z b a (λ lt. inr (inl lt)) (λ ge. inr (inr (omega (arith, ints)))))

pub differ : (test same : Bool) (a b : ℤ) → test ≡ not same → (IsTrue same ↔ (a ≡ b)) → IsTrue test ↔ (¬ (a ≡ b))
differ test true a b e t = ((λ r. λ k. absurd (cc)), (λ n. absurd (n (t.0 refl))))
differ test false a b e t = ((λ r. untrue false refl t), (λ n. (cc)))

module _ (whole p q : ℤ × ℤ) (f x y next : ℤ) (h : AreHeads whole p q f) (ex : x ≡ int_max p.0 f) (ey : y ≡ int_max q.0 f) (en : next ≡ int_max x y) where
  pub next_fits : (filled : Bool) (d : ℤ) → (IsTrue filled ↔ (¬ (x ≡ y))) → d ≡ pos (from_bool filled) → IsBetween whole (next -ℤ d)
  next_fits true d t e =
      let (a, a') = h.first in let (b, b') = h.second in let o = h.first_left in let o' = h.second_left in
      ⊎_elim (λ lt. (omega (arith, ints, clamps), omega (arith, ints, clamps)))
      (⊎_elim (λ gt. (omega (arith, ints, clamps), omega (arith, ints, clamps))) (λ same. absurd (t.0 refl same)))
      (order x y)
  next_fits false d t e =
      let (a, a') = h.first in let (b, b') = h.second in let o = h.first_left in let o' = h.second_left in (omega (arith, ints, clamps), omega (arith, ints, clamps))

  pub run_fits : (joined test : Bool) (s lower start upper d end : ℤ) → whole.0 ≤ℤ s → lower ≡ int_min x y → start ≡ cond joined s lower → upper ≡ cond test p.1 q.1 → end ≡ int_min upper d →
      IsInRange whole (start, end)
  run_fits joined test s lower start upper d end low el es eu ee = (first joined es, second test eu)
    where
      first : (joined : Bool) → start ≡ cond joined s lower → whole.0 ≤ℤ start
      first true e = omega (arith, ints)
      first false e = let (a, a') = h.first in let (b, b') = h.second in omega (arith, ints, clamps)

      second : (test : Bool) → upper ≡ cond test p.1 q.1 → end ≤ℤ whole.1
      second true e = let (a, a') = h.first in omega (arith, ints, clamps)
      second false e = let (b, b') = h.second in omega (arith, ints, clamps)

pub from_fits : (whole p q : ℤ × ℤ) (f u v last d : ℤ) (left : Bool) → AreHeads whole p q f → u ≡ p.1 → v ≡ q.1 → last ≡ int_min u v → (IsTrue left ↔ (¬ (u ≡ v))) → d ≡ pos (from_bool left) →
    IsBetween whole (last +ℤ d)
from_fits whole p q f u v last d true h eu ev e t k =
    let (a, a') = h.first in let (b, b') = h.second in let o = h.first_left in let o' = h.second_left in
    ⊎_elim (λ lt. (omega (arith, ints, clamps), omega (arith, ints, clamps)))
    (⊎_elim (λ gt. (omega (arith, ints, clamps), omega (arith, ints, clamps))) (λ same. absurd (t.0 refl same)))
    (order u v)
from_fits whole p q f u v last d false h eu ev e t k =
    let (a, a') = h.first in let (b, b') = h.second in let o = h.first_left in let o' = h.second_left in (omega (arith, ints, clamps), omega (arith, ints, clamps))

pub sum_same : {a b m n : ℤ} → a ≡ m → b ≡ n → (a +ℤ b) ≡ (m +ℤ n)
sum_same e f = cc

pub one_at_most : (test : Bool) → from_bool test ≤ 1
one_at_most true = omega arith
one_at_most false = omega arith

-- one of the two places moves
pub some_moves : (ends other : Bool) (v w : ℤ) → (IsTrue ends ↔ (v ≤ℤ w)) → (IsTrue other ↔ (w ≤ℤ v)) → 1 ≤ from_bool ends + from_bool other
some_moves true other v w t r = omega arith
some_moves false true v w t r = omega arith
some_moves false false v w t r = by_lt_z v w (λ lt. absurd (untrue false refl t (omega (arith, ints)))) (λ le. absurd (untrue false refl r le))

-- ---- what is written

module _ (out A B : List (ℤ × ℤ)) (n k : ℕ) (p q : ℤ × ℤ) (f s : ℤ) (joined : Bool) (S : ℤ → Type 0) (u : IsAlone (take n out) (p ∷ A) (q ∷ B) f s joined S)
    (fit : n ≤ length out) (place : k ≡ n - from_bool joined) (room : k < length out)
    (x y next upper end start : ℤ) (ex : x ≡ int_max p.0 f) (ey : y ≡ int_max q.0 f) (en : next ≡ int_max x y)
    (test : Bool) (t : IsTrue test ↔ (x ≤ℤ y)) (eu : upper ≡ cond test p.1 q.1) (es : start ≡ cond joined s (int_min x y)) where
  abbrev W : List (ℤ × ℤ)
  W = take n out

  abbrev part : ℤ × ℤ
  part = (int_min x y, end)

  abbrev Lower : ℤ → Type 0
  Lower = LowerPart (int_max p.0 f, p.1) (int_max q.0 f, q.1)

  upper_is : (test : Bool) → (IsTrue test ↔ (x ≤ℤ y)) → upper ≡ cond test p.1 q.1 → ((x ≤ℤ y) × (upper ≡ p.1)) ⊎ ((y <ℤ x) × (upper ≡ q.1))
  upper_is true t e = inl (t.0 refl, e)
  upper_is false t e = inr (by_lt_z y x (λ lt. lt) (λ le. absurd (untrue false refl t le)), e)

  part_is : end ≡ int_min upper (next -ℤ pos 1) → SameMembers (IsBetween part) Lower
  part_is ee z = ⊎_elim
      (λ (le, same). (
        (λ (low, high). inl ((omega (arith, ints, clamps), omega (arith, ints, clamps)), omega (arith, ints, clamps))),
        ⊎_elim (λ ((low, high), lt). (omega (arith, ints, clamps), omega (arith, ints, clamps))) (λ ((low, high), lt). absurd (omega (arith, ints, clamps))),
      ))
      (λ (gt, same). (
        (λ (low, high). inr ((omega (arith, ints, clamps), omega (arith, ints, clamps)), omega (arith, ints, clamps))),
        ⊎_elim (λ ((low, high), lt). absurd (omega (arith, ints, clamps))) (λ ((low, high), lt). (omega (arith, ints, clamps), omega (arith, ints, clamps))),
      ))
      (upper_is test t eu)

  is_alone : (z : ℤ) → Lower z → alone_from f (p ∷ A) (q ∷ B) z
  is_alone = lower_part_is_alone (int_max p.0 f, p.1) (int_max q.0 f, q.1) A B u.first u.second

  starts_at : (joined : Bool) → MeetsAt joined W s f (alone_from f (p ∷ A) (q ∷ B)) → IsTrue joined → (int_min x y ≡ f) × (¬ (x ≡ y))
  starts_at true m r = ⊎_elim
      (λ (c, free). let low = covered_from (int_max p.0 f, p.1) A f u.first c in let o = u.second.0 in (omega (arith, ints, clamps), (λ same. free (inl (omega (arith, ints, clamps), omega (arith, ints, clamps))))))
      (λ (c, free). let low = covered_from (int_max q.0 f, q.1) B f u.second c in let o = u.first.0 in (omega (arith, ints, clamps), (λ same. free (inl (omega (arith, ints, clamps), omega (arith, ints, clamps))))))
      m.1
  starts_at false m r = absurd (cc)

  apart_from : (joined : Bool) → MeetsAt joined W s f (alone_from f (p ∷ A) (q ∷ B)) → joined ≡ false → IsBelow (pos 2) (Covers W) Lower
  apart_from true m e = absurd (cc)
  apart_from false m e = λ a z c l. m a z c (is_alone z l)

  nothing : x ≡ y → HasNone Lower
  nothing e z (inl ((low, high), lt)) = omega (arith, ints, clamps)
  nothing e z (inr ((low, high), lt)) = omega (arith, ints, clamps)

  no_join : (joined : Bool) → MeetsAt joined W s f (alone_from f (p ∷ A) (q ∷ B)) → x ≡ y → from_bool joined ≡ 0
  no_join true m e = absurd ((starts_at true m refl).1 e)
  no_join false m e = refl

  pub part_added : (filled : Bool) → (IsTrue filled ↔ (¬ (x ≡ y))) → end ≡ int_min upper (next -ℤ pos (from_bool filled)) →
      IsRunsOf (take (k + from_bool filled) (set out k (start, end))) (Union (Covers W) Lower)
  part_added true tf ee =
      let same = part_is ee in
      let below : IsBelow (pos 1) (Covers W) (IsBetween part) = building_below (pos 1) W _ _ S u.state (λ z i. is_alone z ((same z).0 i)) in
      let o = u.first.0 in let o' = u.second.0 in
      let some : part.0 ≤ℤ part.1 = ⊎_elim
      (λ (le, at). ⊎_elim (λ lt. omega (arith, ints, clamps)) (⊎_elim (λ gt. omega (arith, ints, clamps)) (λ eq. absurd (tf.0 refl eq))) (order x y))
      (λ (gt, at). omega (arith, ints, clamps))
      (upper_is test t eu) in
      let put = put_run joined out n k s f part (start, end) (alone_from f (p ∷ A) (q ∷ B)) fit place room u.state.maximal u.meets (λ r. (starts_at joined u.meets r).0)
      (λ e a z c i. apart_from joined u.meets e a z c ((same z).0 i)) some below es refl in
      record {
        maximal = put.maximal;
        members = λ z. (
          (λ c. ⊎_elim (λ w. inl w) (λ i. inr ((same z).0 i)) ((put.members z).0 c)),
          (λ w. (put.members z).1 (⊎_elim (λ c. inl c) (λ l. inr ((same z).1 l)) w)),
        );
      }
  part_added false tf ee =
      let e : x ≡ y = ⊎_elim (λ lt. absurd (untrue false refl tf (λ same. omega (arith, ints)))) (⊎_elim (λ gt. absurd (untrue false refl tf (λ same. omega (arith, ints)))) (λ same. same)) (order x y) in
      let none = no_join joined u.meets e in
      let at : k ≡ n = omega (arith, place, none) in
      let kept : take (k + 0) (set out k (start, end)) ≡ W =
      ap (λ (i : ℕ). take i (set out k (start, end))) (omega arith) ∙ take-set out k (start, end) ∙ ap (λ (i : ℕ). take i out) at in
      subst (λ (L : List (ℤ × ℤ)). IsRunsOf L (Union (Covers W) Lower)) (sym kept) (adds_none W Lower u.state.maximal (nothing e))

  -- where the next run starts right above the end of the first
  pub last_is : (filled : Bool) (e : ℤ) → (IsTrue filled ↔ (¬ (x ≡ y))) → end ≡ int_min upper (next -ℤ pos (from_bool filled)) → ((x ≤ℤ e) × (e ≡ p.1)) ⊎ ((y ≤ℤ e) × (e ≡ q.1)) →
      next ≡ e +ℤ pos 1 → Some (start, e) ≡ slice_get (take (k + from_bool filled) (set out k (start, end))) (length (take (k + from_bool filled) (set out k (start, end))) - 1)
  last_is true e tf ee at h =
      let o = u.first.0 in let o' = u.second.0 in
      let same : end ≡ e = ⊎_elim
      (λ (le, is). ⊎_elim (λ (low, up). omega (arith, ints, clamps)) (λ (low, up). omega (arith, ints, clamps)) at)
      (λ (gt, is). ⊎_elim (λ (low, up). omega (arith, ints, clamps)) (λ (low, up). omega (arith, ints, clamps)) at)
      (upper_is test t eu) in
      ap (λ (v : ℤ). Some (start, v)) (sym same) ∙ put_is_last out k (start, end) room
  last_is false e tf ee at h =
      absurd (untrue false refl tf (λ same. ⊎_elim (λ (low, up). omega (arith, ints, clamps)) (λ (low, up). omega (arith, ints, clamps)) at))

  module _ (L M : List (ℤ × ℤ)) (i j : ℕ) (dl : drop i L ≡ p ∷ A) (dm : drop j M ≡ q ∷ B) (da : drop (i + 1) L ≡ A) (db : drop (j + 1) M ≡ B)
      (filled : Bool) (tf : IsTrue filled ↔ (¬ (x ≡ y))) (ee : end ≡ int_min upper (next -ℤ pos (from_bool filled))) (g : ℤ) (eq : Bool) (te : IsTrue eq ↔ (next ≡ g)) where
    abbrev W' : List (ℤ × ℤ)
    W' = take (k + from_bool filled) (set out k (start, end))

    turned_added : IsRunsOf W' (Union (Covers W) (LowerPart (int_max q.0 f, q.1) (int_max p.0 f, p.1)))
    turned_added = let r = part_added filled tf ee in record {
      maximal = r.maximal;
      members = λ z. (
        (λ c. ⊎_elim (λ w. inl w) (⊎_elim (λ a. inr (inr a)) (λ b. inr (inl b))) ((r.members z).0 c)),
        ⊎_elim (λ w. (r.members z).1 (inl w)) (⊎_elim (λ a. (r.members z).1 (inr (inr a))) (λ b. (r.members z).1 (inr (inl b)))),
      );
    }

    next_is : next ≡ int_max (int_max p.0 f) (int_max q.0 f)
    next_is = omega (arith, ints, clamps)

    next_turned : next ≡ int_max (int_max q.0 f) (int_max p.0 f)
    next_turned = omega (arith, ints, clamps)

    same_place : (N R : List (ℤ × ℤ)) (m : ℕ) → drop m N ≡ R → drop (m + 0) N ≡ R
    same_place N R m e = ap (λ (l : ℕ). drop l N) (omega arith) ∙ e

    pub alone_next : (ends other left : Bool) (v w : ℤ) → v ≡ p.1 → w ≡ q.1 → (IsTrue ends ↔ (v ≤ℤ w)) → (IsTrue other ↔ (w ≤ℤ v)) → (IsTrue left ↔ (¬ (v ≡ w))) →
        g ≡ int_min v w +ℤ pos (from_bool left) → IsAlone W' (drop (i + from_bool ends) L) (drop (j + from_bool other) M) g start (left && eq) S
    alone_next true true true v w ev ew ta tb tl eg = absurd (let a = ta.0 refl in let b = tb.0 refl in tl.0 refl (omega (arith, ints)))
    alone_next true true false v w ev ew ta tb tl eg =
        let a = ta.0 refl in let b = tb.0 refl in
        rw (da, db) (both_next W W' A B p q f S u.first u.second u.state u.before (part_added filled tf ee) g (omega (arith, ints)) (omega (arith, ints, clamps)) start)
    alone_next true false true v w ev ew ta tb tl eg =
        let a : p.1 <ℤ q.1 = by_lt_z v w (λ lt. omega (arith, ints)) (λ le. absurd (untrue false refl tb le)) in
        let o = u.first.0 in
        let k : g ≡ p.1 +ℤ pos 1 = omega (arith, ints, clamps) in
        let P : ℤ → Type 0 = λ m. IsTrue eq ↔ (m ≡ g) in
        rw (da, same_place M (q ∷ B) j dm)
        (one_next W W' A B p q f S u.first u.second u.state u.before (part_added filled tf ee) g a k eq start (subst P next_is te)
        (λ h. last_is filled p.1 tf ee (inl (omega (arith, ints, clamps), refl)) (next_is ∙ h ∙ k)))
    alone_next true false false v w ev ew ta tb tl eg = absurd (untrue false refl tl (λ same. untrue false refl tb (omega (arith, ints))))
    alone_next false true true v w ev ew ta tb tl eg =
        let a : q.1 <ℤ p.1 = by_lt_z w v (λ lt. omega (arith, ints)) (λ le. absurd (untrue false refl ta le)) in
        let o = u.second.0 in
        let k : g ≡ q.1 +ℤ pos 1 = omega (arith, ints, clamps) in
        let t = alone_turned W (p ∷ A) (q ∷ B) f s joined S u in
        let P : ℤ → Type 0 = λ m. IsTrue eq ↔ (m ≡ g) in
        rw (db, same_place L (p ∷ A) i dl)
        (alone_turned W' B (p ∷ A) g start eq S
        (one_next W W' B A q p f S u.second u.first t.state u.before turned_added g a k eq start (subst P next_turned te)
        (λ h. last_is filled q.1 tf ee (inr (omega (arith, ints, clamps), refl)) (next_turned ∙ h ∙ k))))
    alone_next false true false v w ev ew ta tb tl eg = absurd (untrue false refl tl (λ same. untrue false refl ta (omega (arith, ints))))
    alone_next false false left v w ev ew ta tb tl eg = by_lt_z v w (λ lt. absurd (untrue false refl ta (omega (arith, ints)))) (λ le. absurd (untrue false refl tb le))

-- ---- the runs that are left in one of the two lists

meets_first : (joined : Bool) (W : List (ℤ × ℤ)) (s f : ℤ) (part : ℤ × ℤ) (R : ℤ → Type 0) (more : List (ℤ × ℤ)) → SameMembers R (Covers (part ∷ more)) → IsMaximal (part ∷ more) →
    MeetsAt joined W s f R → IsTrue joined → f ≤ℤ part.0 → part.0 ≡ f
meets_first true W s f part R more same m u r h = let low = covered_from part more f m ((same f).0 u.1) in omega (arith, ints)
meets_first false W s f part R more same m u r h = absurd (cc)

meets_apart : (joined : Bool) (W : List (ℤ × ℤ)) (s f : ℤ) (R : ℤ → Type 0) → MeetsAt joined W s f R → joined ≡ false → IsBelow (pos 2) (Covers W) R
meets_apart true W s f R u e = absurd (cc)
meets_apart false W s f R u e = u

run_and_more : (W V more : List (ℤ × ℤ)) (p : ℤ × ℤ) → IsRunsOf V (Union (Covers W) (IsBetween p)) → IsMaximal (p ∷ more) → IsBelow (pos 1) (Covers W) (Covers (p ∷ more)) →
    IsRunsOf (V ++ more) (Union (Covers W) (Covers (p ∷ more)))
run_and_more W V more p r m b = record {
  maximal = IsMaximal-append V more r.maximal m.2 (λ x y c d. let far = covered_after p.1 more y m.1 m.2 d in
      ⊎_elim (λ w. let low = b x p.0 w (inl (lower_end p m.0)) in let o = m.0 in omega (arith, ints)) (λ i. let high = i.1 in omega (arith, ints)) ((r.members x).0 c));
  members = λ z. (
    (λ c. ⊎_elim (λ v. ⊎_elim (λ w. inl w) (λ i. inr (inl i)) ((r.members z).0 v)) (λ d. inr (inr d)) (covers-append V more z c)),
    ⊎_elim (λ w. covers-append_left V more z ((r.members z).1 (inl w)))
        (⊎_elim (λ i. covers-append_left V more z ((r.members z).1 (inr i))) (λ d. covers-append_right V more z d)),
  );
}

pub rest_is : (A B R : List (ℤ × ℤ)) (f : ℤ) → R ≡ A ++ B → (A ≡ []) ⊎ (B ≡ []) → SameMembers (alone_from f A B) (Covers (trimmed f R))
rest_is A B R f e (inl h) =
    rw (e, h) (λ z. (⊎_elim (λ (c, free). absurd c) (λ (c, free). c), (λ c. inr (c, (λ n. n)))))
rest_is A B R f e (inr h) =
    rw (e, h, append-nil A) (λ z. (⊎_elim (λ (c, free). c) (λ (c, free). absurd c), (λ c. inl (c, (λ n. n)))))

pub rest_maximal : (W A B R : List (ℤ × ℤ)) (f s : ℤ) (joined : Bool) (S : ℤ → Type 0) → R ≡ A ++ B → (A ≡ []) ⊎ (B ≡ []) → IsAlone W A B f s joined S → IsMaximal (trimmed f R)
rest_maximal W A B R f s joined S e (inl h) u = subst (λ (L : List (ℤ × ℤ)). IsMaximal (trimmed f L)) (sym (e ∙ ap (λ (L : List (ℤ × ℤ)). L ++ B) h)) u.second
rest_maximal W A B R f s joined S e (inr h) u = subst (λ (L : List (ℤ × ℤ)). IsMaximal (trimmed f L)) (sym (e ∙ ap (λ (L : List (ℤ × ℤ)). A ++ L) h ∙ append-nil A)) u.first

pub ends_alone : (W A B R : List (ℤ × ℤ)) (f s : ℤ) (joined : Bool) (S : ℤ → Type 0) → R ≡ A ++ B → (A ≡ []) ⊎ (B ≡ []) → R ≡ [] → IsAlone W A B f s joined S → IsRunsOf W S
ends_alone W A B R f s joined S e h none u =
    building_ends (pos 1) W (alone_from f A B) S u.state (λ z r. subst (λ (L : List (ℤ × ℤ)). Covers (trimmed f L) z) none ((rest_is A B R f e h z).0 r))

-- the first of them is written, and then the others
pub all_alone : (out A B R more new : List (ℤ × ℤ)) (n k : ℕ) (p : ℤ × ℤ) (f s start : ℤ) (joined : Bool) (S : ℤ → Type 0) → IsAlone (take n out) A B f s joined S → R ≡ A ++ B → (A ≡ []) ⊎ (B ≡ []) →
    R ≡ p ∷ more → n ≤ length out → k ≡ n - from_bool joined → k < length out → start ≡ cond joined s (int_max p.0 f) → new ≡ take (k + 1) (set out k (start, p.1)) ++ more → IsRunsOf new S
all_alone out A B R more new n k p f s start joined S u e h l fit place room es written =
    let W = take n out in
    let same : SameMembers (alone_from f A B) (Covers ((int_max p.0 f, p.1) ∷ more)) = subst (λ (L : List (ℤ × ℤ)). SameMembers (alone_from f A B) (Covers (trimmed f L))) l (rest_is A B R f e h) in
    let m : IsMaximal ((int_max p.0 f, p.1) ∷ more) = subst (λ (L : List (ℤ × ℤ)). IsMaximal (trimmed f L)) l (rest_maximal W A B R f s joined S e h u) in
    let part : ℤ × ℤ = (int_max p.0 f, p.1) in
    let put = put_run joined out n k s f part (start, p.1) (alone_from f A B) fit place room u.state.maximal u.meets
    (λ r. meets_first joined W s f part (alone_from f A B) more same m u.meets r (omega (arith, ints, clamps)))
    (λ r a z c i. meets_apart joined W s f (alone_from f A B) u.meets r a z c ((same z).1 (inl i)))
    m.0 (building_below (pos 1) W _ _ S u.state (λ z i. (same z).1 (inl i))) es refl in
    rw written (building_done (pos 1) W _ _ S (building_same (pos 1) W _ _ S same u.state)
    (run_and_more W (take (k + 1) (set out k (start, p.1))) more part put m (λ a z c r. u.state.below a z c ((same z).1 r))))

pub rest_in_range : (whole p : ℤ × ℤ) (L M R more : List (ℤ × ℤ)) (i j : ℕ) → IsRunListIn whole L → IsRunListIn whole M → R ≡ drop i L ++ drop j M →
    (drop i L ≡ []) ⊎ (drop j M ≡ []) → R ≡ p ∷ more → IsInRange whole p
rest_in_range whole p L M R more i j l m e (inl h) k =
    run_in_range whole p (pos 0) M more j m (sym (e ∙ ap (λ (N : List (ℤ × ℤ)). N ++ drop j M) h) ∙ k) (IsMaximal-drop M j m.maximal)
rest_in_range whole p L M R more i j l m e (inr h) k =
    run_in_range whole p (pos 0) L more i l (sym (e ∙ ap (λ (N : List (ℤ × ℤ)). drop i L ++ N) h ∙ append-nil (drop i L)) ∙ k) (IsMaximal-drop L i l.maximal)

pub rest_fits : (whole p : ℤ × ℤ) (joined : Bool) (s x v start end : ℤ) → IsInRange whole p → whole.0 ≤ℤ s → x ≡ int_max p.0 v → start ≡ cond joined s x → end ≡ p.1 → IsInRange whole (start, end)
rest_fits whole p true s x v start end (a, b) low ex es ee = (omega (arith, ints), omega (arith, ints))
rest_fits whole p false s x v start end (a, b) low ex es ee = (omega (arith, ints, clamps), omega (arith, ints))
