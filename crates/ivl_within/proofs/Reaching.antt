-- The runs of a list that reach a window make all results in it.
use Rattle.std.proofs.Common.{◌≡◌, ⊎_elim, inl, inr, ℤ, ◌≤ℤ◌, List, [], ◌∷◌, ◌++◌, ◌∙◌, ◌+◌, ◌<◌, ℕ, ap, get_or, length, map, subst, sym, take, arith}
use Rattle.std.proofs.lemmas.Int.{ints}
use Rattle.std.proofs.lemmas.List.{take_more}
use Rattle.ivl_laws.specs.Arithmetic.{interval_difference, interval_sum}
use Rattle.ivl_laws.specs.Sets.{IsBetween, IsHullOf, IsSubset, Intersection, SameMembers, Union}
use Rattle.ivl_laws.specs.Runs.{Covers, IsMaximal, IsRunListIn, IsRunsOf}
use Rattle.ivl_laws.proofs.Merging.{covers-append, covers-append_left, covers-append_right}
use Rattle.ivl_laws.proofs.Places.{IsMaximal-take, covers-take}
use Rattle.ivl_laws.proofs.Products.{differences_of_runs, run_ends, sums_of_runs}
use Rattle.ivl_laws.proofs.SetLaws.{IsRunsOf-same}
use Rattle.ivl_places.specs.Windows.{OfRunsThatMeet}
use Rattle.ivl_within.specs.Within.{Clipped, SumsBy, pair_by, reach_back_by, reach_by}
use Rattle.ivl_within.proofs.Clipping.{part_of_sums}
use Rattle.ivl_within.specs.declared.within.Combined.{Combined}
use Rattle.ivl_within.specs.declared.within.Combined.TheVariants.{Sum, Difference}

pub alone : (p : ℤ × ℤ) (x : ℤ) → Covers (p ∷ []) x → IsBetween p x
alone p x = ⊎_elim (λ b. b) (λ n. absurd n)

-- the results of one run and each run of a list
row_sums : (op : Combined) (p : ℤ × ℤ) (M : List (ℤ × ℤ)) → p.0 ≤ℤ p.1 → IsMaximal M → SameMembers (Covers (map (pair_by op p) M)) (SumsBy op (IsBetween p) (Covers M))
row_sums Sum p M filled maximal z =
    let both = sums_of_runs (p ∷ []) M z (filled, tt, tt) maximal in (
      (λ c. let s = both.1 (covers-append_left (map (interval_sum p) M) [] z c) in (s.0, s.1, alone p s.0 s.2, s.3, s.4)),
      (λ s. ⊎_elim (λ c. c) (λ n. absurd n) (covers-append (map (interval_sum p) M) [] z (both.0 (s.0, s.1, inl s.2, s.3, s.4)))),
    )
row_sums Difference p M filled maximal z =
    let both = differences_of_runs (p ∷ []) M z (filled, tt, tt) maximal in (
      (λ c. let s = both.1 (covers-append_left (map (interval_difference p) M) [] z c) in (s.0, s.1, alone p s.0 s.2, s.3, s.4)),
      (λ s. ⊎_elim (λ c. c) (λ n. absurd n) (covers-append (map (interval_difference p) M) [] z (both.0 (s.0, s.1, inl s.2, s.3, s.4)))),
    )

-- a result in the window is that of a number which reaches it
in_window : (op : Combined) (w p : ℤ × ℤ) (S T : ℤ → Type 0) (z : ℤ) → ((y : ℤ) → S y → IsBetween (reach_by op w p) y → T y) → SumsBy op (IsBetween p) S z → IsBetween w z → SumsBy op (IsBetween p) T z
in_window Sum w p S T z reaches (x, y, (a, b), t, e) (c, d) = (x, y, (a, b), reaches y t (omega (arith, ints), omega (arith, ints)), e)
in_window Difference w p S T z reaches (x, y, (a, b), t, e) (c, d) = (x, y, (a, b), reaches y t (omega (arith, ints), omega (arith, ints)), e)

of_part : (op : Combined) (p : ℤ × ℤ) (S T : ℤ → Type 0) (z : ℤ) → IsSubset S T → SumsBy op (IsBetween p) S z → SumsBy op (IsBetween p) T z
of_part Sum p S T z part (x, y, s, t, e) = (x, y, s, part y t, e)
of_part Difference p S T z part (x, y, s, t, e) = (x, y, s, part y t, e)

-- the runs of a list that meet what reaches a window
module _ (whole k r : ℤ × ℤ) (right met : List (ℤ × ℤ)) (runs : IsRunListIn whole right)
    (reach : SameMembers (IsBetween r) (Clipped whole (IsBetween k))) (is : IsRunsOf met (OfRunsThatMeet (IsBetween r) (Covers right))) where
  part : IsSubset (Covers met) (Covers right)
  part y c = let m = (is.members y).0 c in (run_ends (Covers right) m.0 y m.2).1

  reaching : (y : ℤ) → Covers right y → IsBetween k y → Covers met y
  reaching y c b = (is.members y).1 (y, (reach y).1 (b, runs.within y c), λ x k. subst (Covers right) (⊎_elim (λ i. omega (arith, ints, i.0, i.1)) (λ i. omega (arith, ints, i.0, i.1)) k) c)

module _ (op : Combined) (whole w p r : ℤ × ℤ) (right met : List (ℤ × ℤ)) (filled : p.0 ≤ℤ p.1) (runs : IsRunListIn whole right)
    (reach : SameMembers (IsBetween r) (Clipped whole (IsBetween (reach_by op w p)))) (is : IsRunsOf met (OfRunsThatMeet (IsBetween r) (Covers right))) where
  -- the runs that reach the window make the whole row
  pub row_is : (old entries : List (ℤ × ℤ)) → SameMembers (Covers entries) (Union (Covers old) (Clipped w (Covers (map (pair_by op p) met))))
      → SameMembers (Covers entries) (Union (Covers old) (Clipped w (Covers (map (pair_by op p) right))))
  row_is old entries h z =
      let some = row_sums op p met filled is.maximal z in
      let all = row_sums op p right filled runs.maximal z in
      let k = reach_by op w p in (
        (λ c. ⊎_elim inl (λ n. inr (all.1 (of_part op p (Covers met) (Covers right) z (part whole k r right met runs reach is) (some.0 n.0)), n.1)) ((h z).0 c)),
        ⊎_elim (λ o. (h z).1 (inl o)) (λ n. (h z).1 (inr (some.1 (in_window op w p (Covers right) (Covers met) z (reaching whole k r right met runs reach is) (all.0 n.0) n.1), n.1))),
      )

  -- some of them make a part of it
  pub row_has : (n : ℕ) → IsSubset (Covers (map (pair_by op p) (take n met))) (Covers (map (pair_by op p) right))
  row_has n z c =
      let some = row_sums op p (take n met) filled (IsMaximal-take met n is.maximal) z in
      let all = row_sums op p right filled runs.maximal z in
      all.1 (of_part op p (Covers (take n met)) (Covers right) z (λ y t. part whole (reach_by op w p) r right met runs reach is y (covers-take met n y t)) (some.0 c))

-- ---- the runs of the first list that reach a window with a second one

back_in_window : (op : Combined) (w q : ℤ × ℤ) (S S' T : ℤ → Type 0) (z : ℤ) → ((x : ℤ) → S x → IsBetween (reach_back_by op w q) x → S' x) → IsSubset T (IsBetween q)
    → SumsBy op S T z → IsBetween w z → SumsBy op S' T z
back_in_window Sum w q S S' T z reaches holds (x, y, s, t, e) (c, d) = let (a, b) = holds y t in (x, y, reaches x s (omega (arith, ints), omega (arith, ints)), t, e)
back_in_window Difference w q S S' T z reaches holds (x, y, s, t, e) (c, d) = let (a, b) = holds y t in (x, y, reaches x s (omega (arith, ints), omega (arith, ints)), t, e)

pub reaching_sums : (op : Combined) (whole w q r : ℤ × ℤ) (left met right : List (ℤ × ℤ)) → IsRunListIn whole left
    → SameMembers (IsBetween r) (Clipped whole (IsBetween (reach_back_by op w q))) → IsRunsOf met (OfRunsThatMeet (IsBetween r) (Covers left)) → IsSubset (Covers right) (IsBetween q)
    → SameMembers (Clipped w (SumsBy op (Covers met) (Covers right))) (Clipped w (SumsBy op (Covers left) (Covers right)))
reaching_sums op whole w q r left met right runs reach is holds z = let k = reach_back_by op w q in (
  (λ n. (part_of_sums op (Covers met) (Covers left) (Covers right) (part whole k r left met runs reach is) z n.0, n.1)),
  (λ n. (back_in_window op w q (Covers left) (Covers met) (Covers right) z (reaching whole k r left met runs reach is) holds n.0 n.1, n.1)),
)

-- ---- run by run

-- the results in one run more
pub runs_grow : (S : ℤ → Type 0) (entries new L : List (ℤ × ℤ)) (i : ℕ) (p : ℤ × ℤ) → i < length L → p ≡ get_or L i p → SameMembers (Covers new) (Union (Covers entries) (Clipped p S))
    → SameMembers (Covers entries) (Intersection (Covers (take i L)) S) → SameMembers (Covers new) (Intersection (Covers (take (i + 1) L)) S)
runs_grow S entries new L i p l is k h =
    let next : take (i + 1) L ≡ take i L ++ p ∷ [] = take_more L i p l ∙ ap (λ (y : ℤ × ℤ). take i L ++ y ∷ []) (sym is) in
    subst (λ (m : List (ℤ × ℤ)). SameMembers (Covers new) (Intersection (Covers m) S)) (sym next) (λ z. (
      (λ c. ⊎_elim (λ e. let u = (h z).0 e in (covers-append_left (take i L) (p ∷ []) z u.0, u.1)) (λ n. (covers-append_right (take i L) (p ∷ []) z (inl n.1), n.0)) ((k z).0 c)),
      (λ u. ⊎_elim (λ t. (k z).1 (inl ((h z).1 (t, u.1)))) (λ q. (k z).1 (inr (u.1, alone p z q))) (covers-append (take i L) (p ∷ []) z u.0)),
    ))

-- the same where the results are made of some runs of the first list
pub runs_grow_by : (S T : ℤ → Type 0) (entries new L : List (ℤ × ℤ)) (i : ℕ) (p : ℤ × ℤ) → i < length L → p ≡ get_or L i p → SameMembers (Clipped p T) (Clipped p S)
    → SameMembers (Covers new) (Union (Covers entries) (Clipped p T))
    → SameMembers (Covers entries) (Intersection (Covers (take i L)) S) → SameMembers (Covers new) (Intersection (Covers (take (i + 1) L)) S)
runs_grow_by S T entries new L i p l is same k h =
    runs_grow S entries new L i p l is (λ z. ((λ c. ⊎_elim inl (λ n. inr ((same z).0 n)) ((k z).0 c)), ⊎_elim (λ o. (k z).1 (inl o)) (λ n. (k z).1 (inr ((same z).1 n))))) h

-- ---- the members of a set among results that were made in its hull alone

module _ (X L : List (ℤ × ℤ)) (S : ℤ → Type 0) (p : ℤ × ℤ) (hull : IsHullOf p (Covers X)) (made : IsRunsOf L (Clipped p S)) where
  -- what a set has of the results in its hull, it has of all results
  pub results_in_hull : SameMembers (Intersection (Covers X) (Covers L)) (Intersection (Covers X) S)
  results_in_hull z = (
    (λ (x, c). (x, ((made.members z).0 c).0)),
    (λ (x, s). (x, (made.members z).1 (s, hull.holds z x))),
  )

  -- the results in the hull of one run are those in the run
  pub results_in_one_run : length X ≡ 1 → IsRunsOf L (Intersection (Covers X) S)
  results_in_one_run one = IsRunsOf-same (Clipped p S) (Intersection (Covers X) S) L (same X one hull) made
    where
      same : (Y : List (ℤ × ℤ)) → length Y ≡ 1 → IsHullOf p (Covers Y) → SameMembers (Clipped p S) (Intersection (Covers Y) S)
      same [] n h z = absurd (omega (arith, n))
      same (q ∷ []) n h z = (
        (λ (s, (a, b)).
            let ends = h.ends (omega (arith, ints)) in
            let (c, d) = alone q p.0 ends.0 in
            let (c', d') = alone q p.1 ends.1 in
            (inl (omega (arith, ints), omega (arith, ints)), s)),
        (λ (y, s). (s, h.holds z y)),
      )
      same (q ∷ q' ∷ Y) n h z = absurd (omega (arith, n))
