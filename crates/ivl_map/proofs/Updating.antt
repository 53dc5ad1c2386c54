-- Entries whose values change within an interval, entry by entry.
use Rattle.std.proofs.Common.{◌≡◌, ⊎_elim, inl, inr, ℕ, zero, suc, ◌<◌, ℤ, ◌≤ℤ◌, Bool, true, List, [], ◌∷◌, length, get_or, take, sym, subst, arith}
use Rattle.std.proofs.lemmas.Int.{ints, by_lt_z}
use Rattle.std.specs.Cmp.{IsEquivalence}
use Rattle.ivl_laws.specs.Sets.{Above, Below, HasSome, Intersection, IsBetween, SameMembers}
use Rattle.ivl_map.specs.Entries.{HasAt, IsEntriesOf, IsEntryList, AllEndBelow, Written}
use Rattle.ivl_map.specs.Changes.{IsUpdated, WrittenPast}
use Rattle.ivl_map.proofs.Lists.{has_below}
use Rattle.ivl_map.proofs.Lookups.{in_next}
use Rattle.ivl_map.proofs.Overlaps.{all_below}
use Rattle.ivl_map.proofs.Writing.{before_start, last_split}

module _ {V : Type 0} (eq : V → V → Bool) (o : IsEquivalence eq) where
  -- ---- an entry p at the end, with x below and above the numbers of q, and y at those

  module _ (E N : List ((ℤ × ℤ) × V)) (p q b : ℤ × ℤ) (x : V) (low : AllEndBelow p.0 E)
      (below : SameMembers (IsBetween b) (Below q.0 (IsBetween p))) (first : IsEntriesOf eq N (Written eq b x (HasAt eq E))) where
    -- what there is after the first part
    pub first_part_above : (m : ℤ × ℤ) → SameMembers (IsBetween m) (Intersection (IsBetween p) (IsBetween q)) → m.0 ≤ℤ m.1 → AllEndBelow m.0 N
    first_part_above m same filled =
        let k = (same m.0).0 (omega (arith, ints), filled) in
        all_below eq o N m.0 first.maximal (λ z v c. ⊎_elim
        (λ (t, s). let l = ((below z).0 t).1 in omega (arith, ints, l, k.1.0))
        (λ (t, out). let l = has_below eq p.0 E z v low t in omega (arith, ints, l, k.0.0))
        ((first.values z v).0 c))

    module _ (D : List ((ℤ × ℤ) × V)) (m : ℤ × ℤ) (y : V) (w : q.0 ≤ℤ q.1) (both : SameMembers (IsBetween m) (Intersection (IsBetween p) (IsBetween q)))
        (second : IsEntriesOf eq D (Written eq m y (HasAt eq N))) where
      -- what there is after the second part
      pub second_part_above : (a : ℤ × ℤ) → SameMembers (IsBetween a) (Above q.1 (IsBetween p)) → a.0 ≤ℤ a.1 → AllEndBelow a.0 D
      second_part_above a same filled =
          let k = (same a.0).0 (omega (arith, ints), filled) in
          all_below eq o D a.0 second.maximal (λ z v c. ⊎_elim
          (λ (t, s). let l = ((both z).0 t).1.1 in omega (arith, ints, l, k.1))
          (λ (t, out). ⊎_elim
          (λ (u, s). let l = ((below z).0 u).1 in omega (arith, ints, l, k.1, w))
          (λ (u, away). let l = has_below eq p.0 E z v low u in omega (arith, ints, l, k.0.0))
          ((first.values z v).0 t))
          ((second.values z v).0 c))

      pub parts_written : (M : List ((ℤ × ℤ) × V)) (a : ℤ × ℤ) → SameMembers (IsBetween a) (Above q.1 (IsBetween p)) → IsEntriesOf eq M (Written eq a x (HasAt eq D)) → IsEntriesOf eq M (WrittenPast eq p x q y (HasAt eq E))
      parts_written M a above third = record {
        maximal = third.maximal;
        values = λ z v. (
          (λ c. ⊎_elim
              (λ (t, s). let k = (above z).0 t in inl (k.0, (λ n. omega (arith, ints, n.1, k.1)), s))
              (λ (t, out). ⊎_elim
              (λ (u, s). let k = (both z).0 u in inr (inl (k.0, k.1, s)))
              (λ (u, away). ⊎_elim
              (λ (n, s). let k = (below z).0 n in inl (k.0, (λ r. omega (arith, ints, r.0, k.1)), s))
              (λ (n, off). inr (inr n))
              ((first.values z v).0 u))
              ((second.values z v).0 t))
              ((third.values z v).0 c)),
          ⊎_elim
              (λ (t, out, s). by_lt_z z q.0
              (λ lt. (third.values z v).1 (inr (
                (second.values z v).1 (inr ((first.values z v).1 (inl ((below z).1 (t, lt), s)), λ n. let k = ((both z).0 n).1.0 in omega (arith, ints, k, lt))),
                λ n. let k = ((above z).0 n).1 in omega (arith, ints, k, lt, w),
              )))
              (λ le. by_lt_z q.1 z (λ lt. (third.values z v).1 (inl ((above z).1 (t, lt), s))) (λ up. absurd (out (le, up)))))
              (⊎_elim
              (λ (t, u, s). (third.values z v).1 (inr ((second.values z v).1 (inl ((both z).1 (t, u), s)), λ n. let k = ((above z).0 n).1 in omega (arith, ints, k, u.1))))
              (λ t. let l = has_below eq p.0 E z v low t in
              (third.values z v).1 (inr (
                (second.values z v).1 (inr (
                  (first.values z v).1 (inr (t, λ n. let k = ((below z).0 n).0.0 in omega (arith, ints, k, l))),
                  λ n. let k = ((both z).0 n).0.0 in omega (arith, ints, k, l),
                )),
                λ n. let k = ((above z).0 n).0.0 in omega (arith, ints, k, l),
              )))),
        );
      }

  -- ---- one entry more

  module _ (Gives : V → V → Type 0) (q : ℤ × ℤ) where
    pub none_updated : (D : List ((ℤ × ℤ) × V)) → D ≡ [] → IsUpdated eq Gives (IsBetween q) [] D
    none_updated D e = subst (λ (L : List ((ℤ × ℤ) × V)). IsUpdated eq Gives (IsBetween q) [] L) (sym e) (record {
      maximal = tt;
      others = λ z v out. ((λ c. c), (λ c. c));
      changed = λ z v t s. absurd s.1;
      no_more = λ z k. k;
    })

    module _ (E D M : List ((ℤ × ℤ) × V)) (i : ℕ) (d : (ℤ × ℤ) × V) (y : V) (m : IsEntryList eq E) (h : i < length E)
        (u : IsUpdated eq Gives (IsBetween q) (take i E) D)
        (gives : HasSome (Intersection (IsBetween (get_or E i d).0) (IsBetween q)) → Gives (get_or E i d).1 y)
        (w : IsEntriesOf eq M (WrittenPast eq (get_or E i d).0 (get_or E i d).1 q y (HasAt eq D))) where
      -- the entries so far lie below the next one
      in_next_too : (z : ℤ) (v : V) → HasAt eq (take i E) z v → HasAt eq (take (suc i) E) z v
      in_next_too z v c = take_more E i z v c
        where
          take_more : (E : List ((ℤ × ℤ) × V)) (i : ℕ) (z : ℤ) (v : V) → HasAt eq (take i E) z v → HasAt eq (take (suc i) E) z v
          take_more [] zero z v c = absurd c
          take_more [] (suc i) z v c = c
          take_more (e ∷ E) zero z v c = absurd c
          take_more (e ∷ E) (suc i) z v (inl b) = inl b
          take_more (e ∷ E) (suc i) z v (inr c) = inr (take_more E i z v c)

      at_next : (z : ℤ) (v : V) → IsBetween (get_or E i d).0 z → eq (get_or E i d).1 v ≡ true → HasAt eq (take (suc i) E) z v
      at_next z v b s = take_last E i z v h b s
        where
          take_last : (E : List ((ℤ × ℤ) × V)) (i : ℕ) (z : ℤ) (v : V) → i < length E → IsBetween (get_or E i d).0 z → eq (get_or E i d).1 v ≡ true → HasAt eq (take (suc i) E) z v
          take_last [] i z v h b s = absurd (omega arith)
          take_last (e ∷ E) zero z v h b s = inl (b, s)
          take_last (e ∷ E) (suc i) z v h b s = inr (take_last E i z v (omega arith) b s)

      pub entry_updated : IsUpdated eq Gives (IsBetween q) (take (suc i) E) M
      entry_updated = record {
        maximal = w.maximal;
        others = λ z v out. (
          (λ c. ⊎_elim
              (λ (b, n, s). at_next z v b s)
              (⊎_elim (λ (b, n, s). absurd (out n)) (λ k. in_next_too z v ((u.others z v out).0 k)))
              ((w.values z v).0 c)),
          (λ c. ⊎_elim
              (λ k. (w.values z v).1 (inr (inr ((u.others z v out).1 k))))
              (λ (b, s). (w.values z v).1 (inl (b, out, s)))
              (last_split eq o E i d z v h c)),
        );
        changed = λ z v t s. ⊎_elim
            (λ k. let (r, g, c) = u.changed z v t (s.0, k, s.2) in (r, g, (w.values z r).1 (inr (inr c))))
            (λ e.
            let P : (ℤ × ℤ) × V → Type 0 = λ f. IsBetween f.0 z in
            let b : IsBetween (get_or E i d).0 z = subst P e s.2 in
            let Q : (ℤ × ℤ) × V → Type 0 = λ f. Gives f.1 y in
            (y, subst Q (sym e) (gives (z, (b, t))), (w.values z y).1 (inr (inl (b, t, o.refl y)))))
            ((in_next E i d (s.0, v) h).0 s.1);
        no_more = λ z k. ⊎_elim
            (λ (b, n, s). (k.0, at_next z k.0 b s))
            (⊎_elim (λ (b, n, s). ((get_or E i d).1, at_next z (get_or E i d).1 b (o.refl (get_or E i d).1))) (λ c. let (v, a) = u.no_more z (k.0, c) in (v, in_next_too z v a)))
            ((w.values z k.0).0 k.1);
      }
      -- and the next one lies above them

    pub updated_below : (E D : List ((ℤ × ℤ) × V)) (i : ℕ) (d : (ℤ × ℤ) × V) → IsEntryList eq E → i < length E → IsUpdated eq Gives (IsBetween q) (take i E) D → AllEndBelow (get_or E i d).0.0 D
    updated_below E D i d m h u = all_below eq o D (get_or E i d).0.0 u.maximal (λ z v c. let (x, k) = u.no_more z (v, c) in before_start eq o E i d z x m h k)
