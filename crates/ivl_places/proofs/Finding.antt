-- What a place in the runs of a set tells of its members.
use Rattle.std.proofs.Common.{◌≡◌, ◌↔◌, ◌∙◌, ap, take, ⊎_elim, ℕ, zero, suc, ◌+◌, ◌<◌, ◌≤◌, ℤ, pos, ◌+ℤ◌, ◌≤ℤ◌, ◌<ℤ◌, Bool, true, false, IsTrue, List, [], ◌∷◌, length, get_or, Some, refl, sym, subst, arith, inl, inr}
use Rattle.std.proofs.lemmas.Int.{ints, by_lt_z}
use Rattle.std.specs.Prelude.{Option, IfSome, slice_get, IsSomeAnd}
use Rattle.ivl_laws.specs.Sets.{IsBetween, IsSubset, HasSome, Only, SameMembers}
use Rattle.ivl_laws.specs.Runs.{Covers, IsMaximal, StartsAfter}
use Rattle.ivl_laws.specs.Counts.{IsIn}
use Rattle.ivl_laws.proofs.Runs.{lower_end, upper_end}
use Rattle.ivl_laws.proofs.Products.{one_covers}
use Rattle.ivl_laws.proofs.Places.{free_above_end, covers_at, open_at, runs_ascend}
use Rattle.ivl_laws.proofs.Ranges.{first_is_least, last_is_greatest}
use Rattle.ivl_places.specs.Places.{EndBelow, CoversFrom}
use Rattle.ivl_laws.proofs.Slices.{same_item}

pub covered_at_place : (L : List (ℤ × ℤ)) (i : ℕ) (v : ℤ) → IsSomeAnd (slice_get L i) (λ run. IsBetween run v) → Covers L v
covered_at_place [] i v h = absurd h
covered_at_place (p ∷ L) zero v h = inl h
covered_at_place (p ∷ L) (suc i) v h = inr (covered_at_place L i v h)

-- the answer to a search that found a run
pub found : (L M : List (ℤ × ℤ)) (i : ℕ) (v : ℤ) → L ≡ M → IsSomeAnd (slice_get L i) (λ run. IsBetween run v) → IsTrue true ↔ Covers M v
found L M i v e h = ((λ _. subst (λ (N : List (ℤ × ℤ)). Covers N v) e (covered_at_place L i v h)), (λ _. refl))

pub not_found : (L M : List (ℤ × ℤ)) (v : ℤ) → L ≡ M → ¬ (Covers L v) → IsTrue false ↔ Covers M v
not_found L M v e n = ((λ h. absurd (cc)), (λ c. absurd (n (subst (λ (N : List (ℤ × ℤ)). Covers N v) (sym e) c))))

pub place_is_less : (L : List (ℤ × ℤ)) (i : ℕ) (v : ℤ) → IsSomeAnd (slice_get L i) (λ run. IsBetween run v) → i < length L
place_is_less [] i v h = absurd h
place_is_less (p ∷ L) zero v h = omega arith
place_is_less (p ∷ L) (suc i) v h = let k = place_is_less L i v h in omega arith

pub in_from_place : (L : List (ℤ × ℤ)) (i : ℕ) (q : ℤ × ℤ) → slice_get L i ≡ Some q → IsIn L q
in_from_place [] i q e = absurd (cc)
in_from_place (p ∷ L) zero q e = inl (cc)
in_from_place (p ∷ L) (suc i) q e = inr (in_from_place L i q e)

pub has_at_place : (L : List (ℤ × ℤ)) (i : ℕ) (q : ℤ × ℤ) (v : ℤ) → slice_get L i ≡ Some q → IsSomeAnd (slice_get L i) (λ run. IsBetween run v) → IsBetween q v
has_at_place [] i q v e h = absurd h
has_at_place (p ∷ L) zero q v e h = let same : p ≡ q = cc in subst (λ (r : ℤ × ℤ). IsBetween r v) same h
has_at_place (p ∷ L) (suc i) q v e h = has_at_place L i q v e h

-- a run whose start is in the run q is held where it ends no later
pub held_by : (L : List (ℤ × ℤ)) (i : ℕ) (q r : ℤ × ℤ) (v b c : ℤ) (t : Bool) → IsMaximal L → r.0 ≤ℤ r.1 → slice_get L i ≡ Some q → IsSomeAnd (slice_get L i) (λ run. IsBetween run v) →
    v ≡ r.0 → b ≡ r.1 → c ≡ q.1 → (IsTrue t ↔ (b ≤ℤ c)) → IsTrue t ↔ IsSubset (IsBetween r) (Covers L)
held_by L i q r v b c t m o e h ev eb ec k =
    let has = has_at_place L i q v e h in
    let here = in_from_place L i q e in (
      λ u z w. let le = k.0 u in one_covers L q z here (omega (arith, ints, has.0, w.0, ev), omega (arith, ints, w.1, le, eb, ec)),
      λ s. k.1 (by_lt_z c b
          (λ lt. absurd (free_above_end L q m here (s (q.1 +ℤ pos 1) (omega (arith, ints, has.1, ev), omega (arith, ints, lt, eb, ec)))))
          (λ le. le)),
    )

-- the runs before one that has v end below v
ends_before : (u : ℤ) (L : List (ℤ × ℤ)) (i : ℕ) (v : ℤ) → StartsAfter u L → IsMaximal L → IsSomeAnd (slice_get L i) (λ run. IsBetween run v) → u <ℤ v
ends_before u [] i v s m h = absurd h
ends_before u (p ∷ L) zero v s m h = omega (arith, ints, s, h.0)
ends_before u (p ∷ L) (suc i) v s m h = let k = ends_before p.1 L i v m.1 m.2 h in omega (arith, ints, s, m.0, k)

pub place_below : (L : List (ℤ × ℤ)) (i : ℕ) (v : ℤ) → IsMaximal L → IsSomeAnd (slice_get L i) (λ run. IsBetween run v) → EndBelow v (take i L)
place_below [] i v m h = absurd h
place_below (p ∷ L) zero v m h = tt
place_below (p ∷ L) (suc i) v m h = (ends_before p.1 L i v m.1 m.2 h, place_below L i v m.2 h)

pub EndBelow-more : (L : List (ℤ × ℤ)) (v w : ℤ) → v ≤ℤ w → EndBelow v L → EndBelow w L
EndBelow-more [] v w h b = tt
EndBelow-more (p ∷ L) v w h b = (omega (arith, ints, h, b.0), EndBelow-more L v w h b.1)

pub holds_at_place : (L : List (ℤ × ℤ)) (i : ℕ) (q r : ℤ × ℤ) (v b c : ℤ) (t : Bool) → IsMaximal L → r.0 ≤ℤ r.1 → slice_get L i ≡ Some q → IsSomeAnd (slice_get L i) (λ run. IsBetween run v) →
    v ≡ r.0 → b ≡ r.1 → c ≡ q.1 → (IsTrue t ↔ (b ≤ℤ c)) → t ≡ true → CoversFrom i r L
holds_at_place L i q r v b c t m o e h ev eb ec k is = record {
  held = (held_by L i q r v b c t m o e h ev eb ec k).0 is;
  less = place_is_less L i v h;
  below = subst (λ z. EndBelow z (take i L)) ev (place_below L i v m h);
}

pub held_by_none : (L : List (ℤ × ℤ)) (i : ℕ) (q r : ℤ × ℤ) (v b c : ℤ) (t : Bool) → IsMaximal L → r.0 ≤ℤ r.1 → slice_get L i ≡ Some q → IsSomeAnd (slice_get L i) (λ run. IsBetween run v) →
    v ≡ r.0 → b ≡ r.1 → c ≡ q.1 → (IsTrue t ↔ (b ≤ℤ c)) → t ≡ false → ¬ (IsSubset (IsBetween r) (Covers L))
held_by_none L i q r v b c t m o e h ev eb ec k is s = let u = (held_by L i q r v b c t m o e h ev eb ec k).1 s in absurd (cc)

pub some_has_length : (L M : List (ℤ × ℤ)) → L ≡ M → HasSome (Covers M) → 0 < length L
some_has_length [] M e h = absurd (subst (λ (N : List (ℤ × ℤ)). Covers N h.0) (sym e) h.1)
some_has_length (p ∷ L) M e h = omega arith

-- a set of one member is one run
pub one_run_is_one : (L M : List (ℤ × ℤ)) (d : ℤ × ℤ) (t : Bool) → L ≡ M → length L ≡ 1 → d ≡ get_or L 0 d → (IsTrue t ↔ (d.0 ≡ d.1)) → IsMaximal L →
    IsTrue t ↔ ((x : ℤ) × SameMembers (Covers M) (Only x))
one_run_is_one [] M d t e n is k m = absurd (omega arith)
one_run_is_one (p ∷ q ∷ L) M d t e n is k m = absurd (omega arith)
one_run_is_one (p ∷ []) M d t e n is k m =
    let P : List (ℤ × ℤ) → Type 0 = λ N. IsTrue t ↔ ((x : ℤ) × SameMembers (Covers N) (Only x)) in
    let Q : ℤ × ℤ → Type 0 = λ r. IsTrue t ↔ (r.0 ≡ r.1) in
    let k' : IsTrue t ↔ (p.0 ≡ p.1) = subst Q is k in
    subst P e (
      λ u. let f = k'.0 u in (p.0, λ z. (⊎_elim (λ b. omega (arith, ints, b.0, b.1, f)) (λ c. absurd c), λ w. inl (omega (arith, ints, w), omega (arith, ints, w, f)))),
      λ (x, s).
          let a : p.0 ≡ x = (s p.0).0 (inl (lower_end p m.0)) in
          let b : p.1 ≡ x = (s p.1).0 (inl (upper_end p m.0)) in
          k'.1 (omega (arith, ints, a, b)),
    )

pub many_runs_are_not_one : (L M : List (ℤ × ℤ)) → L ≡ M → ¬ (length L ≡ 1) → IsMaximal L → IsTrue false ↔ ((x : ℤ) × SameMembers (Covers M) (Only x))
many_runs_are_not_one L M e n m =
    let P : List (ℤ × ℤ) → Type 0 = λ N. IsTrue false ↔ ((x : ℤ) × SameMembers (Covers N) (Only x)) in
    subst P e ((λ h. absurd (cc)), (λ (x, s). absurd (none L n m x s)))
  where
    none : (L : List (ℤ × ℤ)) → ¬ (length L ≡ 1) → IsMaximal L → (x : ℤ) → SameMembers (Covers L) (Only x) → ⊥
    none [] n m x s = (s x).1 refl
    none (p ∷ []) n m x s = n refl
    none (p ∷ q ∷ L) n m x s =
        let a : p.0 ≡ x = (s p.0).0 (inl (lower_end p m.0)) in
        let b : q.0 ≡ x = (s q.0).0 (inr (inl (lower_end q m.2.0))) in
        let far = m.1 in
        let o = m.0 in
        omega (arith, ints, a, b, far, o)

-- ---- each run has a member

pub each_is_filled : (L M : List (ℤ × ℤ)) → L ≡ M → IsMaximal L → (k : ℕ) (d : ℤ × ℤ) → k < length M → HasSome (IsBetween (get_or M k d))
each_is_filled L M e m k d h = ((get_or M k d).0, lower_end (get_or M k d) (open_at M k d (subst IsMaximal e m) h))

pub first_is_filled : (L : List (ℤ × ℤ)) (o : Option (ℤ × ℤ)) → IsMaximal L → o ≡ slice_get L 0 → IfSome o (λ run. HasSome (IsBetween run))
first_is_filled [] o m e = rw e tt
first_is_filled (p ∷ L) o m e = rw e (p.0, lower_end p m.0)

-- ---- the ends of a set

pub least_of_first : (L M : List (ℤ × ℤ)) (d : ℤ × ℤ) (x : ℤ) → L ≡ M → IsMaximal L → HasSome (Covers M) → d ≡ get_or L 0 d → x ≡ d.0 →
    Covers M x × ((z : ℤ) → Covers M z → x ≤ℤ z)
least_of_first L M d x e m h is ex =
    let k = first_is_least L d m (some_has_length L M e h) in
    let f : (get_or L 0 d).0 ≡ x = ap (λ (r : ℤ × ℤ). r.0) (sym is) ∙ sym ex in
    let P : ℤ → Type 0 = λ y. Covers L y × ((z : ℤ) → Covers L z → y ≤ℤ z) in
    let Q : List (ℤ × ℤ) → Type 0 = λ N. Covers N x × ((z : ℤ) → Covers N z → x ≤ℤ z) in
    subst Q e (subst P f k)

pub greatest_of_last : (L M : List (ℤ × ℤ)) (k : ℕ) (d : ℤ × ℤ) (x : ℤ) → L ≡ M → IsMaximal L → k + 1 ≡ length L → d ≡ get_or L k d → x ≡ d.1 →
    Covers M x × ((z : ℤ) → Covers M z → z ≤ℤ x)
greatest_of_last L M k d x e m n is ex =
    let g = last_is_greatest L k d m n in
    let f : (get_or L k d).1 ≡ x = ap (λ (r : ℤ × ℤ). r.1) (sym is) ∙ sym ex in
    let P : ℤ → Type 0 = λ y. Covers L y × ((z : ℤ) → Covers L z → z ≤ℤ y) in
    let Q : List (ℤ × ℤ) → Type 0 = λ N. Covers N x × ((z : ℤ) → Covers N z → z ≤ℤ x) in
    subst Q e (subst P f g)

-- ---- inclusion run by run

pub included_more : (L : List (ℤ × ℤ)) (k : ℕ) (d : ℤ × ℤ) (S : ℤ → Type 0) → k < length L → IsSubset (Covers (take k L)) S → IsSubset (IsBetween (get_or L k d)) S →
    IsSubset (Covers (take (k + 1) L)) S
included_more [] k d S h f r z c = absurd (omega arith)
included_more (p ∷ L) zero d S h f r z (inl b) = r z b
included_more (p ∷ L) zero d S h f r z (inr c) = absurd c
included_more (p ∷ L) (suc k) d S h f r z c =
    let e : suc k + 1 ≡ suc (k + 1) = omega arith in
    let P : ℕ → Type 0 = λ n. Covers (take n (p ∷ L)) z in
    ⊎_elim (λ b. f z (inl b)) (λ t. included_more L k d S (omega arith) (λ w u. f w (inr u)) r z t) (subst P e c)

-- a run that is not included, and one that is
pub one_run_not_included : (L L' R M : List (ℤ × ℤ)) (k : ℕ) (d : ℤ × ℤ) → L ≡ L' → R ≡ M → k < length L → d ≡ get_or L k d → ¬ (IsSubset (IsBetween d) (Covers R)) →
    IsTrue false ↔ IsSubset (Covers L') (Covers M)
one_run_not_included L L' R M k d e f h is n =
    let P : List (ℤ × ℤ) → Type 0 = λ N. IsTrue false ↔ IsSubset (Covers N) (Covers M) in
    let Q : List (ℤ × ℤ) → Type 0 = λ N. ¬ (IsSubset (IsBetween d) (Covers N)) in
    subst P e ((λ u. absurd (cc)), (λ s. absurd (subst Q f n (λ z b. s z (covers_at L k d z h (subst (λ (r : ℤ × ℤ). IsBetween r z) is b))))))

-- what is found for run k of L among the runs of R, where the next run is looked for
pub record FoundFor (L R : List (ℤ × ℤ)) (k from : ℕ) : Type 0 where
  pub included : IsSubset (Covers (take k L)) (Covers R)
  pub at_most : from ≤ length R
  pub below : (d : ℤ × ℤ) → k < length L → d ≡ get_or L k d → EndBelow d.0 (take from R)

pub found_for_none : (L R : List (ℤ × ℤ)) → FoundFor L R 0 0
found_for_none L R = record {
  included = λ z c. absurd c;
  at_most = omega arith;
  below = λ d h e. tt;
}

pub found_for_next : (L R : List (ℤ × ℤ)) (k from i : ℕ) (d : ℤ × ℤ) → IsMaximal L → k < length L → d ≡ get_or L k d → CoversFrom i d R → FoundFor L R k from → FoundFor L R (k + 1) i
found_for_next L R k from i d m h is held found = record {
  included = included_more L k d (Covers R) h found.included (subst (λ (r : ℤ × ℤ). IsSubset (IsBetween r) (Covers R)) is held.held);
  at_most = let less = held.less in omega arith;
  below = λ next more there.
      let far = runs_ascend L k (k + 1) (pos 0, pos 0) m (omega arith) more in
      let open_run = open_at L k (pos 0, pos 0) m h in
      let start : d.0 ≡ (get_or L k (pos 0, pos 0)).0 = ap (λ (r : ℤ × ℤ). r.0) (is ∙ same_item L k d (pos 0, pos 0) h) in
      let later : next.0 ≡ (get_or L (k + 1) (pos 0, pos 0)).0 = ap (λ (r : ℤ × ℤ). r.0) (there ∙ same_item L (k + 1) next (pos 0, pos 0) more) in
      EndBelow-more (take i R) d.0 next.0 (omega (arith, ints, far, open_run, start, later)) held.below;
}
