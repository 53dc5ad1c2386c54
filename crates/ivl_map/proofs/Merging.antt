-- A walk over two lists of entries, which makes one of both.
use Rattle.std.proofs.Common.{◌≡◌, ◌⊎◌, ◌↔◌, ⊎_elim, inl, inr, ℕ, zero, suc, ◌<◌, ◌≤◌, ℤ, ◌≤ℤ◌, ◌<ℤ◌, Bool, true, List, [], ◌∷◌, length, get_or, take, drop, refl, sym, subst, arith}
use Rattle.std.proofs.lemmas.Int.{ints, by_lt_z}
use Rattle.std.specs.Cmp.{IsEquivalence}
use Rattle.ivl_laws.specs.Sets.{Above, HasSome, Intersection, IsBetween, SameMembers}
use Rattle.ivl_laws.proofs.Lengths.{decide_between}
use Rattle.ivl_laws.proofs.Slices.{same_item}
use Rattle.ivl_map.specs.Entries.{HasAt, HasValue, IsEntriesOf, IsEntryList, IsEntryListIn, AllEndBelow, OnlyAt, Written}
use Rattle.ivl_map.specs.Lookups.{IsStoredAt}
use Rattle.ivl_map.specs.Changes.{IsMergeOf, WrittenPair}
use Rattle.ivl_map.proofs.Lists.{has_at, has-drop, has_below, open_at, above_past}
use Rattle.ivl_map.proofs.Overlaps.{all_below}
use Rattle.ivl_map.proofs.Writing.{after_end, before_start, first_split, last_split}

module _ {V : Type 0} (eq : V → V → Bool) where
  -- what the walk knows of the list E, beside the list D: it goes on at place i, and M has what stands in the list alone, but for
  -- the numbers of rest
  pub record IsSide (E D : List ((ℤ × ℤ) × V)) (i : ℕ) (rest : ℤ × ℤ) (M : List ((ℤ × ℤ) × V)) : Type 0 where
    pub at_most : i ≤ length E
    pub alone : (z : ℤ) (v : V) → ¬ (HasValue (HasAt eq D) z) → HasAt eq M z v ↔ (HasAt eq E z v × (¬ (IsBetween rest z)))
    pub left : (z : ℤ) (v : V) → HasAt eq E z v → IsBetween rest z → HasAt eq (drop i E) z v
    pub ends : (d : (ℤ × ℤ) × V) → i < length E → IsBetween rest (get_or E i d).0.1

  pub record IsMerging (Gives : V → V → V → Type 0) (whole : ℤ × ℤ) (E D : List ((ℤ × ℤ) × V)) (i j : ℕ) (rest : ℤ × ℤ) (M : List ((ℤ × ℤ) × V)) : Type 0 where
    pub maximal : IsEntryList eq M
    pub below : (x y : ℤ) (v : V) → HasAt eq M x v → IsBetween rest y → x <ℤ y
    pub upward : (x y : ℤ) → IsBetween rest x → x ≤ℤ y → IsBetween whole y → IsBetween rest y
    pub both : (z : ℤ) (v w : V) → ¬ (IsBetween rest z) → IsStoredAt E z v → IsStoredAt D z w → (x : V) × Gives v w x × HasAt eq M z x
    pub first : IsSide E D i rest M
    pub second : IsSide D E j rest M

  -- M has the parts of the first i entries of E that lie in rest, and what N has
  abbrev pub IsPushed : List ((ℤ × ℤ) × V) → ℕ → ℤ × ℤ → List ((ℤ × ℤ) × V) → List ((ℤ × ℤ) × V) → Type 0
  IsPushed E i rest N M = IsEntriesOf eq M (λ z v. OnlyAt (IsBetween rest) (HasAt eq (take i E)) z v ⊎ HasAt eq N z v)

module _ {V : Type 0} (eq : V → V → Bool) (o : IsEquivalence eq) where
  stored_has : (E : List ((ℤ × ℤ) × V)) (z : ℤ) (v : V) → IsStoredAt E z v → HasAt eq E z v
  stored_has [] z v s = absurd s.1
  stored_has (e ∷ E) z v (p, inl k, b) = let P : (ℤ × ℤ) × V → Type 0 = λ f. IsBetween f.0 z × (eq f.1 v ≡ true) in inl (subst P k (b, o.refl v))
  stored_has (e ∷ E) z v (p, inr k, b) = inr (stored_has E z v (p, k, b))

  -- the entry that has a number is the only one
  stored_one : (E : List ((ℤ × ℤ) × V)) (i : ℕ) (d : (ℤ × ℤ) × V) (z : ℤ) (v : V) → IsEntryList eq E → i < length E → IsBetween (get_or E i d).0 z → IsStoredAt E z v → v ≡ (get_or E i d).1
  stored_one [] i d z v m h b s = absurd (omega arith)
  stored_one (e ∷ E) zero d z v m h b (p, inl k, t) = let P : (ℤ × ℤ) × V → Type 0 = λ f. v ≡ f.1 in subst P k refl
  stored_one (e ∷ E) zero d z v m h b (p, inr k, t) = let a = above_past eq e E z v m (stored_has E z v (p, k, t)) in absurd (omega (arith, ints, a, b.1))
  stored_one (e ∷ E) (suc i) d z v m h b (p, inl k, t) =
      let P : (ℤ × ℤ) × V → Type 0 = λ f. IsBetween f.0 z in
      let c = subst P k t in
      let a = above_past eq e E z (get_or E i d).1 m (has_at eq E i d z (get_or E i d).1 (omega (arith, h)) b (o.refl (get_or E i d).1)) in
      absurd (omega (arith, ints, a, c.1))
  stored_one (e ∷ E) (suc i) d z v m h b (p, inr k, t) = stored_one E i d z v m.2 (omega (arith, h)) b (p, k, t)

  has_in_rest : (E : List ((ℤ × ℤ) × V)) (i : ℕ) (d : (ℤ × ℤ) × V) (z : ℤ) (w : V) → i < length E → IsBetween (get_or E i d).0 z → eq (get_or E i d).1 w ≡ true → HasAt eq (drop i E) z w
  has_in_rest [] i d z w h b s = absurd (omega arith)
  has_in_rest (e ∷ E) zero d z w h b s = inl (b, s)
  has_in_rest (e ∷ E) (suc i) d z w h b s = has_in_rest E i d z w (omega (arith, h)) b s

  -- an entry starts above the end of the one before it
  next_above : (E : List ((ℤ × ℤ) × V)) (i : ℕ) (d : (ℤ × ℤ) × V) → IsEntryList eq E → suc i < length E → (get_or E i d).0.1 <ℤ (get_or E (suc i) d).0.1
  next_above E i d m h =
      let f = get_or E (suc i) d in
      let n = open_at eq E (suc i) d m h in
      after_end eq o E i d f.0.1 f.1 m (omega (arith, h)) (has_in_rest E (suc i) d f.0.1 f.1 h (n, omega (arith, ints)) (o.refl f.1))

  -- ---- one side of a step

  module _ (whole : ℤ × ℤ) (E D M N : List ((ℤ × ℤ) × V)) (i : ℕ) (d : (ℤ × ℤ) × V) (p q rest next : ℤ × ℤ) (e : ℤ)
      (m : IsEntryListIn whole eq E) (h : i < length E) (same : SameMembers (IsBetween p) (Intersection (IsBetween (get_or E i d).0) (IsBetween rest)))
      (met : (z : ℤ) → IsBetween q z → HasValue (HasAt eq D) z) (filled : q.0 ≤ℤ q.1) (cut : SameMembers (IsBetween next) (Above e (IsBetween rest)))
      (low : e ≤ℤ p.1) (low_too : e ≤ℤ q.1) (is_end : (z : ℤ) → z ≤ℤ p.1 → z ≤ℤ q.1 → z ≤ℤ e)
      (upward : (x y : ℤ) → IsBetween rest x → x ≤ℤ y → IsBetween whole y → IsBetween rest y)
      (s : IsSide eq E D i rest M) where
    -- the head ends where its entry does
    head_end : p.1 ≡ (get_or E i d).0.1
    head_end =
        let n = open_at eq E i d m.maximal h in
        let k = (same (get_or E i d).0.1).1 ((n, omega (arith, ints)), s.ends d h) in
        let t = (same p.1).0 (omega (arith, ints, k.0, k.1), omega (arith, ints)) in
        both_ways p.1 (get_or E i d).0.1 t.0.1 k.1
      where
        both_ways : (x y : ℤ) → x ≤ℤ y → y ≤ℤ x → x ≡ y
        both_ways x y le ge = omega (arith, ints, le, ge)

    -- a number of the list in what was left, up to the end, is one of its head
    pub head_has : (z : ℤ) (v : V) → HasAt eq E z v → IsBetween rest z → ¬ (IsBetween next z) → IsBetween p z × (eq (get_or E i d).1 v ≡ true) × (z ≤ℤ e)
    head_has z v c r out =
        let le : z ≤ℤ e = by_lt_z e z (λ lt. absurd (out ((cut z).1 (r, lt)))) (λ le. le) in
        ⊎_elim
        (λ (b, t). ((same z).1 (b, r), t, le))
        (λ c. let a = after_end eq o E i d z v m.maximal h c in let k = head_end in absurd (omega (arith, ints, a, k, low, le)))
        (first_split eq o E i d z v h (s.left z v c r))

    pub side_step : (next_place : ℕ) → ((next_place ≡ i) × (e <ℤ (get_or E i d).0.1)) ⊎ ((next_place ≡ suc i) × ((get_or E i d).0.1 ≤ℤ e)) →
        ((z : ℤ) (v : V) → HasAt eq N z v → (IsBetween p z × (z <ℤ q.0) × (eq (get_or E i d).1 v ≡ true)) ⊎ (IsBetween q z ⊎ HasAt eq M z v)) →
        ((z : ℤ) (v : V) → IsBetween p z → z <ℤ q.0 → eq (get_or E i d).1 v ≡ true → HasAt eq N z v) → ((z : ℤ) (v : V) → HasAt eq M z v → HasAt eq N z v) → IsSide eq E D next_place next N
    side_step next_place moved from part kept = record {
      at_most = ⊎_elim (λ (k, lt). omega (arith, k, h)) (λ (k, le). omega (arith, k, h)) moved;
      alone = λ z v none. (
        (λ c. ⊎_elim
            (λ (b, lt, t). let k = (same z).0 b in (has_at eq E i d z v h k.0 t, λ n. let l = ((cut z).0 n).1 in let u = is_end z b.1 (omega (arith, ints, lt, filled)) in omega (arith, ints, l, u)))
            (⊎_elim
            (λ b. absurd (none (met z b)))
            (λ a. let k = (s.alone z v none).0 a in (k.0, λ n. k.1 ((cut z).0 n).0)))
            (from z v c)),
        (λ (c, out). ⊎_elim
            (λ r.
            let (b, t, le) = head_has z v c r out in
            by_lt_z z q.0
            (λ lt. part z v b lt t)
            (λ ge. absurd (none (met z (ge, omega (arith, ints, le, low_too))))))
            (λ r. kept z v ((s.alone z v none).1 (c, r)))
            (decide_between rest z)),
      );
      left = λ z v c n.
          let r = (cut z).0 n in ⊎_elim
          (λ (k, lt). subst (λ (a : ℕ). HasAt eq (drop a E) z v) (sym k) (s.left z v c r.0))
          (λ (k, le). subst (λ (a : ℕ). HasAt eq (drop a E) z v) (sym k) (⊎_elim
          (λ (b, t). let l = r.1 in let u = b.1 in absurd (omega (arith, ints, l, u, le)))
          (λ a. a)
          (first_split eq o E i d z v h (s.left z v c r.0))))
          moved;
      ends = λ f less. ⊎_elim
          (λ (k, lt).
          let P : (ℤ × ℤ) × V → Type 0 = λ a. IsBetween next a.0.1 in
          let here = subst P (same_item E i d f h) ((cut (get_or E i d).0.1).1 (s.ends d h, lt)) in
          subst (λ (a : ℕ). IsBetween next (get_or E a f).0.1) (sym k) here)
          (λ (k, le).
          let more : suc i < length E = subst (λ (a : ℕ). a < length E) k less in
          subst (λ (a : ℕ). IsBetween next (get_or E a f).0.1) (sym k) (later f more))
          moved;
    }
      where
        later : (f : (ℤ × ℤ) × V) → suc i < length E → IsBetween next (get_or E (suc i) f).0.1
        later f more =
            let g = get_or E (suc i) f in
            let n = open_at eq E (suc i) f m.maximal more in
            let lt = next_above E i f m.maximal more in
            let inside = m.within g.0.1 (g.1, has_at eq E (suc i) f g.0.1 g.1 more (n, omega (arith, ints)) (o.refl g.1)) in
            let r = upward (get_or E i f).0.1 g.0.1 (s.ends f h) (omega (arith, ints, lt)) inside in
            let P : (ℤ × ℤ) × V → Type 0 = λ a. e ≤ℤ a.0.1 in
            let k = head_end in
            let up : e ≤ℤ (get_or E i f).0.1 = subst P (same_item E i d f h) (omega (arith, ints, low, k)) in
            (cut g.0.1).1 (r, omega (arith, ints, up, lt))

  -- ---- a step of both

  module _ (Gives : V → V → V → Type 0) (whole : ℤ × ℤ) (E D M N : List ((ℤ × ℤ) × V)) (i j : ℕ) (d f : (ℤ × ℤ) × V) (p q rest next : ℤ × ℤ) (e : ℤ)
      (m : IsEntryListIn whole eq E) (n : IsEntryListIn whole eq D) (h : i < length E) (k : j < length D)
      (same : SameMembers (IsBetween p) (Intersection (IsBetween (get_or E i d).0) (IsBetween rest)))
      (same_too : SameMembers (IsBetween q) (Intersection (IsBetween (get_or D j f).0) (IsBetween rest)))
      (l : IsMerging eq Gives whole E D i j rest M) where
    -- both heads lie above what there is
    pub head_above : p.0 ≤ℤ p.1 → AllEndBelow p.0 M
    head_above filled = all_below eq o M p.0 l.maximal (λ z v c. l.below z p.0 v c ((same p.0).0 (omega (arith, ints), filled)).1)

    pub head_above_too : q.0 ≤ℤ q.1 → AllEndBelow q.0 M
    head_above_too filled = all_below eq o M q.0 l.maximal (λ z v c. l.below z q.0 v c ((same_too q.0).0 (omega (arith, ints), filled)).1)

    pub head_filled : p.0 ≤ℤ p.1
    head_filled =
        let a = open_at eq E i d m.maximal h in
        let t = (same (get_or E i d).0.1).1 ((a, omega (arith, ints)), l.first.ends d h) in
        omega (arith, ints, t.0, t.1)

    pub head_filled_too : q.0 ≤ℤ q.1
    head_filled_too =
        let a = open_at eq D j f n.maximal k in
        let t = (same_too (get_or D j f).0.1).1 ((a, omega (arith, ints)), l.second.ends f k) in
        omega (arith, ints, t.0, t.1)

    pub head_ends : (p.1 ≡ (get_or E i d).0.1) × (q.1 ≡ (get_or D j f).0.1)
    head_ends = (ends_at p (get_or E i d).0 rest same head_filled (open_at eq E i d m.maximal h) (l.first.ends d h), ends_at q (get_or D j f).0 rest same_too head_filled_too (open_at eq D j f n.maximal k) (l.second.ends f k))
      where
        ends_at : (a b r : ℤ × ℤ) → SameMembers (IsBetween a) (Intersection (IsBetween b) (IsBetween r)) → a.0 ≤ℤ a.1 → b.0 ≤ℤ b.1 → IsBetween r b.1 → a.1 ≡ b.1
        ends_at a b r s w x t =
            let u = (s b.1).1 ((x, omega (arith, ints)), t) in
            let v = (s a.1).0 (w, omega (arith, ints)) in
            let le = u.1 in
            let ge = v.0.1 in
            omega (arith, ints, le, ge)

    pub merge_step : (x : V) → (HasSome (Intersection (IsBetween p) (IsBetween q)) → Gives (get_or E i d).1 (get_or D j f).1 x) →
        IsEntriesOf eq N (WrittenPair eq p (get_or E i d).1 q (get_or D j f).1 x (HasAt eq M)) → SameMembers (IsBetween next) (Above e (IsBetween rest)) →
        e ≤ℤ p.1 → e ≤ℤ q.1 → ((z : ℤ) → z ≤ℤ p.1 → z ≤ℤ q.1 → z ≤ℤ e) → (a b : ℕ) →
        ((a ≡ i) × (e <ℤ (get_or E i d).0.1)) ⊎ ((a ≡ suc i) × ((get_or E i d).0.1 ≤ℤ e)) →
        ((b ≡ j) × (e <ℤ (get_or D j f).0.1)) ⊎ ((b ≡ suc j) × ((get_or D j f).0.1 ≤ℤ e)) → IsMerging eq Gives whole E D a b next N
    merge_step x gives w cut low low_too is_end a b moved moved_too =
        let filled = head_filled in
        let filled_too = head_filled_too in
        let kept : (z : ℤ) (v : V) → HasAt eq M z v → HasAt eq N z v = λ z v c. (w.values z v).1 (inr (inr (inr c))) in
        let met : (z : ℤ) → IsBetween q z → HasValue (HasAt eq D) z = λ z t. ((get_or D j f).1, has_at eq D j f z (get_or D j f).1 k ((same_too z).0 t).0 (o.refl (get_or D j f).1)) in
        let met_too : (z : ℤ) → IsBetween p z → HasValue (HasAt eq E) z = λ z t. ((get_or E i d).1, has_at eq E i d z (get_or E i d).1 h ((same z).0 t).0 (o.refl (get_or E i d).1)) in
        let is_end_too : (z : ℤ) → z ≤ℤ q.1 → z ≤ℤ p.1 → z ≤ℤ e = λ z s t. is_end z t s in
        record {
          maximal = w.maximal;
          below = λ z y v c r.
              let past = ((cut y).0 r).1 in
              ⊎_elim
              (λ (t, lt, s). let u = is_end z t.1 (omega (arith, ints, lt, filled_too)) in omega (arith, ints, u, past))
              (⊎_elim
              (λ (t, lt, s). let u = is_end z (omega (arith, ints, lt, filled)) t.1 in omega (arith, ints, u, past))
              (⊎_elim
              (λ (t, u, s). let r = is_end z t.1 u.1 in omega (arith, ints, r, past))
              (λ c. l.below z y v c ((cut y).0 r).0)))
              ((w.values z v).0 c);
          upward = λ z y r le inside. let t = (cut z).0 r in let past = t.1 in (cut y).1 (l.upward z y t.0 le inside, omega (arith, ints, past, le));
          both = λ z v u out s t. ⊎_elim
              (λ r.
              let one = head_has whole E D M N i d p q rest next e m h same met filled_too cut low low_too is_end l.upward l.first z v (stored_has E z v s) r out in
              let two = head_has whole D E M N j f q p rest next e n k same_too met_too filled cut low_too low is_end_too l.upward l.second z u (stored_has D z u t) r out in
              let is : v ≡ (get_or E i d).1 = stored_one E i d z v m.maximal h ((same z).0 one.0).0 s in
              let is_too : u ≡ (get_or D j f).1 = stored_one D j f z u n.maximal k ((same_too z).0 two.0).0 t in
              let P : V → Type 0 = λ a. Gives a (get_or D j f).1 x in
              let Q : V → Type 0 = λ a. Gives v a x in
              (x, subst Q (sym is_too) (subst P (sym is) (gives (z, (one.0, two.0)))), (w.values z x).1 (inr (inr (inl (one.0, two.0, o.refl x))))))
              (λ r. let c = l.both z v u r s t in (c.0, c.1, kept z c.0 c.2))
              (decide_between rest z);
          first = side_step whole E D M N i d p q rest next e m h same met filled_too cut low low_too is_end l.upward l.first a moved
              (λ z v c. ⊎_elim
              (λ t. inl t)
              (⊎_elim (λ (t, lt, s). inr (inl t)) (⊎_elim (λ (t, u, s). inr (inl u)) (λ c. inr (inr c))))
              ((w.values z v).0 c))
              (λ z v t lt s. (w.values z v).1 (inl (t, lt, s))) kept;
          second = side_step whole D E M N j f q p rest next e n k same_too met_too filled cut low_too low is_end_too l.upward l.second b moved_too
              (λ z v c. ⊎_elim
              (λ (t, lt, s). inr (inl t))
              (⊎_elim (λ t. inl t) (⊎_elim (λ (t, u, s). inr (inl t)) (λ c. inr (inr c))))
              ((w.values z v).0 c))
              (λ z v t lt s. (w.values z v).1 (inr (inl (t, lt, s)))) kept;
        }

  -- ---- the begin and the end of the walk

  side_begins : (whole : ℤ × ℤ) (E D : List ((ℤ × ℤ) × V)) → IsEntryListIn whole eq E → IsSide eq E D 0 whole []
  side_begins whole E D m = record {
    at_most = omega arith;
    alone = λ z v none. ((λ c. absurd c), (λ (c, out). absurd (out (m.within z (v, c)))));
    left = λ z v c r. all_left E z v c;
    ends = λ d h. let n = open_at eq E 0 d m.maximal h in m.within (get_or E 0 d).0.1 ((get_or E 0 d).1, has_at eq E 0 d (get_or E 0 d).0.1 (get_or E 0 d).1 h (n, omega (arith, ints)) (o.refl (get_or E 0 d).1));
  }
    where
      all_left : (E : List ((ℤ × ℤ) × V)) (z : ℤ) (v : V) → HasAt eq E z v → HasAt eq (drop 0 E) z v
      all_left [] z v c = c
      all_left (e ∷ E) z v c = c

  pub merging_begins : (Gives : V → V → V → Type 0) (whole rest : ℤ × ℤ) (E D M : List ((ℤ × ℤ) × V)) → IsEntryListIn whole eq E → IsEntryListIn whole eq D → rest ≡ whole → M ≡ [] → IsMerging eq Gives whole E D 0 0 rest M
  merging_begins Gives whole rest E D M m n r e =
      subst (λ (L : List ((ℤ × ℤ) × V)). IsMerging eq Gives whole E D 0 0 rest L) (sym e) (subst (λ (p : ℤ × ℤ). IsMerging eq Gives whole E D 0 0 p []) (sym r) (record {
        maximal = tt;
        below = λ x y v c t. absurd c;
        upward = λ x y t le inside. inside;
        both = λ z v w out s t. absurd (out (m.within z (v, stored_has E z v s)));
        first = side_begins whole E D m;
        second = side_begins whole D E n;
      }))

  nothing_past : (E : List ((ℤ × ℤ) × V)) (k : ℕ) (z : ℤ) (w : V) → length E ≤ k → ¬ (HasAt eq (drop k E) z w)
  nothing_past [] zero z w h c = c
  nothing_past [] (suc k) z w h c = c
  nothing_past (e ∷ E) zero z w h c = absurd (omega arith)
  nothing_past (e ∷ E) (suc k) z w h c = nothing_past E k z w (omega (arith, h)) c

  -- the second list has ended, and what is left of the first one is added
  pub first_ends_merge : (Gives : V → V → V → Type 0) (whole : ℤ × ℤ) (E D : List ((ℤ × ℤ) × V)) (i j : ℕ) (rest : ℤ × ℤ) (M N : List ((ℤ × ℤ) × V)) → length D ≤ j → IsMerging eq Gives whole E D i j rest M →
      IsEntriesOf eq N (λ z v. OnlyAt (IsBetween rest) (HasAt eq (drop i E)) z v ⊎ HasAt eq M z v) → IsMergeOf eq Gives E D N
  first_ends_merge Gives whole E D i j rest M N done l w =
      let none : (z : ℤ) (v : V) → HasAt eq D z v → ¬ (IsBetween rest z) = λ z v c r. nothing_past D j z v done (l.second.left z v c r) in
      record {
        maximal = w.maximal;
        both = λ z v u s t. let c = l.both z v u (none z u (stored_has D z u t)) s t in (c.0, c.1, (w.values z c.0).1 (inr c.2));
        first_alone = λ z v out. (
          (λ c. ⊎_elim (λ (t, r). has-drop eq E i z v t) (λ t. ((l.first.alone z v out).0 t).0) ((w.values z v).0 c)),
          (λ c. ⊎_elim (λ r. (w.values z v).1 (inl (l.first.left z v c r, r))) (λ r. (w.values z v).1 (inr ((l.first.alone z v out).1 (c, r)))) (decide_between rest z)),
        );
        second_alone = λ z v out. (
          (λ c. ⊎_elim (λ (t, r). absurd (out (v, has-drop eq E i z v t))) (λ t. ((l.second.alone z v out).0 t).0) ((w.values z v).0 c)),
          (λ c. (w.values z v).1 (inr ((l.second.alone z v out).1 (c, none z v c)))),
        );
      }

  turned : (Gives : V → V → V → Type 0) (whole : ℤ × ℤ) (E D : List ((ℤ × ℤ) × V)) (i j : ℕ) (rest : ℤ × ℤ) (M : List ((ℤ × ℤ) × V)) → IsMerging eq Gives whole E D i j rest M → IsMerging eq (λ v w. Gives w v) whole D E j i rest M
  turned Gives whole E D i j rest M l = record {
    maximal = l.maximal;
    below = l.below;
    upward = l.upward;
    both = λ z v w out s t. l.both z w v out t s;
    first = l.second;
    second = l.first;
  }

  pub second_ends_merge : (Gives : V → V → V → Type 0) (whole : ℤ × ℤ) (E D : List ((ℤ × ℤ) × V)) (i j : ℕ) (rest : ℤ × ℤ) (M N : List ((ℤ × ℤ) × V)) → length E ≤ i → IsMerging eq Gives whole E D i j rest M →
      IsEntriesOf eq N (λ z v. OnlyAt (IsBetween rest) (HasAt eq (drop j D)) z v ⊎ HasAt eq M z v) → IsMergeOf eq Gives E D N
  second_ends_merge Gives whole E D i j rest M N done l w =
      let k = first_ends_merge (λ v w. Gives w v) whole D E j i rest M N done (turned Gives whole E D i j rest M l) w in
      record { maximal = k.maximal; both = λ z v w s t. k.both z w v t s; first_alone = k.second_alone; second_alone = k.first_alone }

  -- what there is lies below what is left
  pub rest_above : (Gives : V → V → V → Type 0) (whole : ℤ × ℤ) (E D : List ((ℤ × ℤ) × V)) (i j : ℕ) (rest : ℤ × ℤ) (M : List ((ℤ × ℤ) × V)) → IsMerging eq Gives whole E D i j rest M → rest.0 ≤ℤ rest.1 → AllEndBelow rest.0 M
  rest_above Gives whole E D i j rest M l filled = all_below eq o M rest.0 l.maximal (λ z v c. l.below z rest.0 v c (omega (arith, ints), filled))

  -- the numbers of a merge lie in the range
  has_or_not : (E : List ((ℤ × ℤ) × V)) (z : ℤ) → HasValue (HasAt eq E) z ⊎ (¬ (HasValue (HasAt eq E) z))
  has_or_not [] z = inr (λ k. k.1)
  has_or_not (e ∷ E) z = ⊎_elim
      (λ b. inl (e.1, inl (b, o.refl e.1)))
      (λ out. ⊎_elim (λ k. inl (k.0, inr k.1)) (λ none. inr (λ k. ⊎_elim (λ t. out t.0) (λ c. none (k.0, c)) k.1)) (has_or_not E z))
      (decide_between e.0 z)

  pub merge_in : (Gives : V → V → V → Type 0) (whole : ℤ × ℤ) (E D N : List ((ℤ × ℤ) × V)) → IsEntryListIn whole eq E → IsEntryListIn whole eq D → IsMergeOf eq Gives E D N → IsEntryListIn whole eq N
  merge_in Gives whole E D N m n w = record {
    maximal = w.maximal;
    within = λ z k. ⊎_elim (λ t. m.within z t) (λ none. n.within z (k.0, (w.second_alone z k.0 none).0 k.1)) (has_or_not E z);
  }

  -- ---- parts added one after the other

  pub pushing_begins : (E : List ((ℤ × ℤ) × V)) (rest : ℤ × ℤ) (N : List ((ℤ × ℤ) × V)) → IsEntryList eq N → IsPushed eq E 0 rest N N
  pushing_begins E rest N n = record { maximal = n; values = λ z v. ((λ c. inr c), ⊎_elim (λ (c, t). absurd (none_yet E z v c)) (λ c. c)) }
    where
      none_yet : (E : List ((ℤ × ℤ) × V)) (z : ℤ) (v : V) → ¬ (HasAt eq (take 0 E) z v)
      none_yet [] z v c = c
      none_yet (e ∷ E) z v c = c

  module _ (E N M D : List ((ℤ × ℤ) × V)) (i : ℕ) (d : (ℤ × ℤ) × V) (rest part : ℤ × ℤ) (m : IsEntryList eq E) (h : i < length E) (low : rest.0 ≤ℤ rest.1 → AllEndBelow rest.0 N)
      (same : SameMembers (IsBetween part) (Intersection (IsBetween (get_or E i d).0) (IsBetween rest))) (l : IsPushed eq E i rest N M) where
    pub pushed_above : part.0 ≤ℤ part.1 → AllEndBelow part.0 M
    pushed_above filled =
        let k = (same part.0).0 (omega (arith, ints), filled) in
        all_below eq o M part.0 l.maximal (λ z v c. ⊎_elim
        (λ (t, r). let a = before_start eq o E i d z v m h t in let b = k.0.0 in omega (arith, ints, a, b))
        (λ t. let a = has_below eq rest.0 N z v (low (omega (arith, ints, k.1.0, k.1.1))) t in let b = k.1.0 in omega (arith, ints, a, b))
        ((l.values z v).0 c))

    pub one_pushed : IsEntriesOf eq D (Written eq part (get_or E i d).1 (HasAt eq M)) → IsPushed eq E (suc i) rest N D
    one_pushed w = record {
      maximal = w.maximal;
      values = λ z v. (
        (λ c. ⊎_elim
            (λ (b, s). let k = (same z).0 b in inl (at_next E i z v h k.0 s, k.1))
            (λ (t, out). ⊎_elim (λ (u, r). inl (take_more E i z v u, r)) (λ u. inr u) ((l.values z v).0 t))
            ((w.values z v).0 c)),
        ⊎_elim
            (λ (c, r). ⊎_elim
            (λ t. let a = before_start eq o E i d z v m h t in (w.values z v).1 (inr ((l.values z v).1 (inl (t, r)), λ b. let u = ((same z).0 b).0.0 in omega (arith, ints, a, u))))
            (λ (b, s). (w.values z v).1 (inl ((same z).1 (b, r), s)))
            (last_split eq o E i d z v h c))
            (λ c. (w.values z v).1 (inr (
              (l.values z v).1 (inr c),
              λ b.
                  let u = ((same z).0 b).1 in
                  let a = has_below eq rest.0 N z v (low (omega (arith, ints, u.0, u.1))) c in
                  let t = u.0 in omega (arith, ints, a, t),
            ))),
      );
    }
      where
        take_more : (E : List ((ℤ × ℤ) × V)) (i : ℕ) (z : ℤ) (v : V) → HasAt eq (take i E) z v → HasAt eq (take (suc i) E) z v
        take_more [] zero z v c = absurd c
        take_more [] (suc i) z v c = c
        take_more (e ∷ E) zero z v c = absurd c
        take_more (e ∷ E) (suc i) z v (inl b) = inl b
        take_more (e ∷ E) (suc i) z v (inr c) = inr (take_more E i z v c)

        at_next : (E : List ((ℤ × ℤ) × V)) (i : ℕ) (z : ℤ) (v : V) → i < length E → IsBetween (get_or E i d).0 z → eq (get_or E i d).1 v ≡ true → HasAt eq (take (suc i) E) z v
        at_next [] i z v h b s = absurd (omega arith)
        at_next (e ∷ E) zero z v h b s = inl (b, s)
        at_next (e ∷ E) (suc i) z v h b s = inr (at_next E i z v (omega (arith, h)) b s)
