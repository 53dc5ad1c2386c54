-- Runs cut by an interval: the first from below, and the last one from above.
use Rattle.std.proofs.Common.{◌≡◌, ⊎_elim, inl, inr, ℕ, zero, suc, ◌+◌, ◌<◌, ℤ, pos, ◌+ℤ◌, ◌≤ℤ◌, List, [], ◌∷◌, length, get_or, set, take, drop, sym, ap, subst, ◌∙◌, ◌-◌, ◌≤◌, arith, length-set, length-drop}
use Rattle.std.proofs.lemmas.List.{drop-set-add, get_or-drop, take-set-le}
use Rattle.std.proofs.lemmas.Int.{ints, clamps}
use Rattle.std.specs.Int.{int_max, int_min}
use Rattle.ivl_laws.specs.Sets.{AtLeast, AtMost, IsBetween, SameMembers, Intersection}
use Rattle.ivl_laws.specs.Runs.{Covers, IsMaximal, IsRunsOf, IsRunListIn, StartsAfter, StartsBy}
use Rattle.ivl_laws.proofs.Runs.{covered_after}
use Rattle.ivl_laws.proofs.Intervals.{same_between}
use Rattle.ivl_places.specs.Places.{EndsFrom}

-- what is left of a run that ends at v or above is filled, and keeps its end
kept_above : (p r : ℤ × ℤ) (v : ℤ) → p.0 ≤ℤ p.1 → v ≤ℤ p.1 → SameMembers (IsBetween r) (AtLeast v (IsBetween p)) → r ≡ (int_max p.0 v, p.1)
kept_above p r v o h s = sym (same_between (int_max p.0 v, p.1) r (omega (arith, ints, clamps)) (λ z. (
  (λ b. let x = b.0 in let y = b.1 in (s z).1 ((omega (arith, ints, clamps), y), omega (arith, ints, clamps))),
  (λ b. let k = (s z).0 b in let x = k.0.0 in let y = k.1 in (omega (arith, ints, clamps), k.0.1)),
)))

kept_below : (p r : ℤ × ℤ) (v : ℤ) → p.0 ≤ℤ p.1 → p.0 ≤ℤ v → SameMembers (IsBetween r) (AtMost v (IsBetween p)) → r ≡ (p.0, int_min p.1 v)
kept_below p r v o h s = sym (same_between (p.0, int_min p.1 v) r (omega (arith, ints, clamps)) (λ z. (
  (λ b. let x = b.0 in let y = b.1 in (s z).1 ((x, omega (arith, ints, clamps)), omega (arith, ints, clamps))),
  (λ b. let k = (s z).0 b in let x = k.0.1 in let y = k.1 in (k.0.0, omega (arith, ints, clamps))),
)))

pub cut_first : (L : List (ℤ × ℤ)) (r d : ℤ × ℤ) (v : ℤ) → IsMaximal L → 0 < length L → EndsFrom v L → SameMembers (IsBetween r) (AtLeast v (IsBetween (get_or L 0 d))) →
    IsRunsOf (set L 0 r) (AtLeast v (Covers L))
cut_first [] r d v m h e s = absurd (omega arith)
cut_first (p ∷ L) r d v m h e s = record {
  maximal = subst (λ (t : ℤ × ℤ). IsMaximal (t ∷ L)) (sym (kept_above p r v m.0 e s)) (let o = m.0 in omega (arith, ints, clamps), m.1, m.2);
  members = λ z. (
    ⊎_elim (λ b. let k = (s z).0 b in (inl k.0, k.1)) (λ c. let far = covered_after p.1 L z m.1 m.2 c in (inr c, omega (arith, ints))),
    (λ (c, k). ⊎_elim (λ b. inl ((s z).1 (b, k))) (λ c. inr c) c),
  );
}

-- the first of the list still starts by w
pub cut_first_starts : (L : List (ℤ × ℤ)) (r d : ℤ × ℤ) (v w : ℤ) → IsMaximal L → 0 < length L → EndsFrom v L → SameMembers (IsBetween r) (AtLeast v (IsBetween (get_or L 0 d))) →
    v ≤ℤ w → StartsBy w L → StartsBy w (set L 0 r)
cut_first_starts [] r d v w m h e s o b = absurd (omega arith)
cut_first_starts (p ∷ L) r d v w m h e s o b =
    subst (λ (t : ℤ × ℤ). StartsBy w (t ∷ L)) (sym (kept_above p r v m.0 e s)) (let x = b.0 in omega (arith, ints, clamps), b.1)

starts_still : (u : ℤ) (L : List (ℤ × ℤ)) (k : ℕ) (r d : ℤ × ℤ) (v : ℤ) → StartsAfter u L → IsMaximal L → k + 1 ≡ length L → StartsBy v L →
    SameMembers (IsBetween r) (AtMost v (IsBetween (get_or L k d))) → StartsAfter u (set L k r)
starts_still u [] k r d v a m e b s = absurd (omega arith)
starts_still u (q ∷ L) zero r d v a m e b s =
    subst (λ (t : ℤ × ℤ). (u +ℤ pos 2) ≤ℤ t.0) (sym (kept_below q r v m.0 b.0 s)) a
starts_still u (q ∷ L) (suc k) r d v a m e b s = a

pub cut_last : (L : List (ℤ × ℤ)) (k : ℕ) (r d : ℤ × ℤ) (v : ℤ) → IsMaximal L → k + 1 ≡ length L → StartsBy v L → SameMembers (IsBetween r) (AtMost v (IsBetween (get_or L k d))) →
    IsRunsOf (set L k r) (AtMost v (Covers L))
cut_last [] k r d v m e b s = absurd (omega arith)
cut_last (p ∷ []) zero r d v m e b s = record {
  maximal = subst (λ (t : ℤ × ℤ). IsMaximal (t ∷ [])) (sym (kept_below p r v m.0 b.0 s)) (let o = m.0 in let x = b.0 in omega (arith, ints, clamps), tt, tt);
  members = λ z. (
    ⊎_elim (λ c. let k = (s z).0 c in (inl k.0, k.1)) (λ c. absurd c),
    (λ (c, k). ⊎_elim (λ h. inl ((s z).1 (h, k))) (λ h. absurd h) c),
  );
}
cut_last (p ∷ []) (suc k) r d v m e b s = absurd (omega arith)
cut_last (p ∷ q ∷ L) zero r d v m e b s = absurd (omega arith)
cut_last (p ∷ q ∷ L) (suc k) r d v m e b s =
    let u = cut_last (q ∷ L) k r d v m.2 (omega arith) b.1 s in
    let gap = m.1 in
    let start = b.1.0 in
    record {
      maximal = (m.0, starts_still p.1 (q ∷ L) k r d v m.1 m.2 (omega arith) b.1 s, u.maximal);
      members = λ z. (
        ⊎_elim (λ c. let high = c.1 in (inl c, omega (arith, ints))) (λ c. let k = (u.members z).0 c in (inr k.0, k.1)),
        (λ (c, h). ⊎_elim (λ c. inl c) (λ c. inr ((u.members z).1 (c, h))) c),
      );
    }

-- M is the list with its first run cut, and N that with its last run cut
pub cut_both : (L M N : List (ℤ × ℤ)) (W : ℤ × ℤ) → IsRunsOf M (AtLeast W.0 (Covers L)) → IsRunsOf N (AtMost W.1 (Covers M)) → IsRunsOf N (Intersection (Covers L) (IsBetween W))
cut_both L M N W f l = record {
  maximal = l.maximal;
  members = λ z. (
    (λ c. let k = (l.members z).0 c in let j = (f.members z).0 k.0 in (j.0, (j.1, k.1))),
    (λ (c, b). (l.members z).1 ((f.members z).1 (c, b.0), b.1)),
  );
}

-- N has what the list has in W
pub record IsCut (whole : ℤ × ℤ) (L : List (ℤ × ℤ)) (W : ℤ × ℤ) (N : List (ℤ × ℤ)) : Type 0 where
  pub runs : IsRunsOf N (Intersection (Covers L) (IsBetween W))
  pub list : IsRunListIn whole N

pub is_cut : (whole : ℤ × ℤ) (L : List (ℤ × ℤ)) (W p q r s : ℤ × ℤ) (k : ℕ) (v w : ℤ) → IsRunListIn whole L → W.0 ≤ℤ W.1 → EndsFrom W.0 L → StartsBy W.1 L →
    k + 1 ≡ length L → v ≡ W.0 → w ≡ W.1 → p ≡ get_or L 0 p → SameMembers (IsBetween r) (AtLeast v (IsBetween p)) →
    q ≡ get_or (set L 0 r) k q → SameMembers (IsBetween s) (AtMost w (IsBetween q)) → IsCut whole L W (set (set L 0 r) k s)
is_cut whole L W p q r s k v w l o e b n f g is h at j =
    let M : List (ℤ × ℤ) = set L 0 r in
    let low : SameMembers (IsBetween r) (AtLeast W.0 (IsBetween (get_or L 0 p))) =
    subst (λ (u : ℤ). SameMembers (IsBetween r) (AtLeast u (IsBetween (get_or L 0 p)))) f (subst (λ (t : ℤ × ℤ). SameMembers (IsBetween r) (AtLeast v (IsBetween t))) is h) in
    let high : SameMembers (IsBetween s) (AtMost W.1 (IsBetween (get_or M k q))) =
    subst (λ (u : ℤ). SameMembers (IsBetween s) (AtMost u (IsBetween (get_or M k q)))) g (subst (λ (t : ℤ × ℤ). SameMembers (IsBetween s) (AtMost w (IsBetween t))) at j) in
    let first = cut_first L r p W.0 l.maximal (omega arith) e low in
    let starts = cut_first_starts L r p W.0 W.1 l.maximal (omega arith) e low o b in
    let same = length-set L 0 r in
    let last = cut_last M k s q W.1 first.maximal (omega arith) starts high in
    let all = cut_both L M (set M k s) W first last in
    record { runs = all; list = record { maximal = all.maximal; within = λ z c. l.within z ((all.members z).0 c).0 } }

-- ---- the runs of a list from a place on

-- N is the list with the runs from place i on cut to what they have in W
pub record IsCutFrom (whole : ℤ × ℤ) (L : List (ℤ × ℤ)) (W : ℤ × ℤ) (i : ℕ) (N : List (ℤ × ℤ)) : Type 0 where
  pub before : take i N ≡ take i L
  pub part : IsCut whole (drop i L) W (drop i N)

pub is_cut_from : (whole : ℤ × ℤ) (L : List (ℤ × ℤ)) (W p q r s : ℤ × ℤ) (i k : ℕ) (v w : ℤ) → IsRunListIn whole (drop i L) → W.0 ≤ℤ W.1 → EndsFrom W.0 (drop i L) → StartsBy W.1 (drop i L) →
    i ≤ k → k + 1 ≡ length L → v ≡ W.0 → w ≡ W.1 → p ≡ get_or L i p → SameMembers (IsBetween r) (AtLeast v (IsBetween p)) →
    q ≡ get_or (set L i r) k q → SameMembers (IsBetween s) (AtMost w (IsBetween q)) → IsCutFrom whole L W i (set (set L i r) k s)
is_cut_from whole L W p q r s i k v w l o e b le n f g is h at j =
    let M : List (ℤ × ℤ) = set L i r in
    let first : i + 0 ≡ i = omega arith in
    let place : i + (k - i) ≡ k = omega (arith, le) in
    let front : drop i M ≡ set (drop i L) 0 r = ap (λ (x : ℕ). drop i (set L x r)) (sym first) ∙ drop-set-add i L 0 r in
    let back : drop i (set M k s) ≡ set (drop i M) (k - i) s = ap (λ (x : ℕ). drop i (set M x s)) (sym place) ∙ drop-set-add i M (k - i) s in
    let at_first : get_or L i p ≡ get_or (drop i L) 0 p = ap (λ (x : ℕ). get_or L x p) (sym first) ∙ sym (get_or-drop i L 0 p) in
    let at_last : get_or M k q ≡ get_or (set (drop i L) 0 r) (k - i) q = ap (λ (x : ℕ). get_or M x q) (sym place) ∙ sym (get_or-drop i M (k - i) q) ∙ ap (λ (K : List (ℤ × ℤ)). get_or K (k - i) q) front in
    let many = length-drop i L in
    let cut = is_cut whole (drop i L) W p q r s (k - i) v w l o e b (omega (arith, many, le, n)) f g (is ∙ at_first) h (at ∙ at_last) j in
    record {
      before = take-set-le i M k s le ∙ take-set-le i L i r (omega arith);
      part = subst (λ (K : List (ℤ × ℤ)). IsCut whole (drop i L) W K) (sym (back ∙ ap (λ (K : List (ℤ × ℤ)). set K (k - i) s) front)) cut;
    }
