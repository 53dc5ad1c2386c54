-- What two entries make, added at the end: a part of each, and what both have.
use Rattle.std.proofs.Common.{⊎_elim, inl, inr, ℤ, ◌≤ℤ◌, ◌<ℤ◌, Bool, List, arith}
use Rattle.std.proofs.lemmas.Int.{ints}
use Rattle.std.specs.Cmp.{IsEquivalence}
use Rattle.ivl_laws.specs.Sets.{Below, Intersection, IsBetween, SameMembers}
use Rattle.ivl_map.specs.Entries.{HasAt, IsEntriesOf, IsEntryList, AllEndBelow, Written}
use Rattle.ivl_map.specs.Changes.{WrittenPair}
use Rattle.ivl_map.proofs.Lists.{has_below}
use Rattle.ivl_map.proofs.Overlaps.{all_below}

module _ {V : Type 0} (eq : V → V → Bool) (o : IsEquivalence eq) where
  -- what ends below a number ends below a higher one
  pub end_below_more : (E : List ((ℤ × ℤ) × V)) (u t : ℤ) → IsEntryList eq E → AllEndBelow u E → u ≤ℤ t → AllEndBelow t E
  end_below_more E u t m low le = all_below eq o E t m (λ z v c. let l = has_below eq u E z v low c in omega (arith, ints, l, le))

  module _ (E N : List ((ℤ × ℤ) × V)) (p q b : ℤ × ℤ) (x : V) (list : IsEntryList eq E) (low : AllEndBelow p.0 E) (low_too : AllEndBelow q.0 E)
      (below : SameMembers (IsBetween b) (Below q.0 (IsBetween p))) where
    module _ (first : IsEntriesOf eq N (Written eq b x (HasAt eq E))) where
      -- where the first part is written
      after_first : (z : ℤ) (v : V) (t : ℤ) → HasAt eq N z v → p.0 ≤ℤ t → q.0 ≤ℤ t → z <ℤ t
      after_first z v t c from from_too = ⊎_elim
          (λ (n, s). let l = ((below z).0 n).1 in omega (arith, ints, l, from_too))
          (λ (n, out). let l = has_below eq p.0 E z v low n in omega (arith, ints, l, from))
          ((first.values z v).0 c)

      after_own : (z : ℤ) (v : V) → HasAt eq N z v → z <ℤ q.0
      after_own z v c = ⊎_elim
          (λ (n, s). ((below z).0 n).1)
          (λ (n, out). has_below eq q.0 E z v low_too n)
          ((first.values z v).0 c)

      pub second_of_pair_above : (a : ℤ × ℤ) → SameMembers (IsBetween a) (Below p.0 (IsBetween q)) → a.0 ≤ℤ a.1 → AllEndBelow a.0 N
      second_of_pair_above a same filled =
          let k = (same a.0).0 (omega (arith, ints), filled) in
          all_below eq o N a.0 first.maximal (λ z v c. let l = after_own z v c in omega (arith, ints, l, k.0.0))

      module _ (D : List ((ℤ × ℤ) × V)) (a : ℤ × ℤ) (y : V) (above : SameMembers (IsBetween a) (Below p.0 (IsBetween q)))
          (second : IsEntriesOf eq D (Written eq a y (HasAt eq N))) where
        pub common_of_pair_above : (m : ℤ × ℤ) → SameMembers (IsBetween m) (Intersection (IsBetween p) (IsBetween q)) → m.0 ≤ℤ m.1 → AllEndBelow m.0 D
        common_of_pair_above m same filled =
            let k = (same m.0).0 (omega (arith, ints), filled) in
            all_below eq o D m.0 second.maximal (λ z v c. ⊎_elim
            (λ (n, s). let l = ((above z).0 n).1 in omega (arith, ints, l, k.0.0))
            (λ (n, out). after_first z v m.0 n k.0.0 k.1.0)
            ((second.values z v).0 c))

        pub pair_written : (M : List ((ℤ × ℤ) × V)) (m : ℤ × ℤ) (w : V) → SameMembers (IsBetween m) (Intersection (IsBetween p) (IsBetween q)) → IsEntriesOf eq M (Written eq m w (HasAt eq D)) →
            IsEntriesOf eq M (WrittenPair eq p x q y w (HasAt eq E))
        pair_written M m w both third = record {
          maximal = third.maximal;
          values = λ z v. (
            (λ c. ⊎_elim
                (λ (t, s). let k = (both z).0 t in inr (inr (inl (k.0, k.1, s))))
                (λ (t, out). ⊎_elim
                (λ (u, s). let k = (above z).0 u in inr (inl (k.0, k.1, s)))
                (λ (u, away). ⊎_elim
                (λ (n, s). let k = (below z).0 n in inl (k.0, k.1, s))
                (λ (n, off). inr (inr (inr n)))
                ((first.values z v).0 u))
                ((second.values z v).0 t))
                ((third.values z v).0 c)),
            ⊎_elim
                (λ (t, lt, s). (third.values z v).1 (inr (
                  (second.values z v).1 (inr ((first.values z v).1 (inl ((below z).1 (t, lt), s)), λ n. let k = ((above z).0 n).1 in omega (arith, ints, k, t.0))),
                  λ n. let k = ((both z).0 n).1.0 in omega (arith, ints, k, lt),
                )))
                (⊎_elim
                (λ (t, lt, s). (third.values z v).1 (inr (
                  (second.values z v).1 (inl ((above z).1 (t, lt), s)),
                  λ n. let k = ((both z).0 n).0.0 in omega (arith, ints, k, lt),
                )))
                (⊎_elim
                (λ (t, u, s). (third.values z v).1 (inl ((both z).1 (t, u), s)))
                (λ t.
                let l = has_below eq p.0 E z v low t in
                let r = has_below eq q.0 E z v low_too t in
                (third.values z v).1 (inr (
                  (second.values z v).1 (inr (
                    (first.values z v).1 (inr (t, λ n. let k = ((below z).0 n).0.0 in omega (arith, ints, k, l))),
                    λ n. let k = ((above z).0 n).0.0 in omega (arith, ints, k, r),
                  )),
                  λ n. let k = ((both z).0 n).0.0 in omega (arith, ints, k, l),
                ))))),
          );
        }
