-- The rows of results, and the fronts in them.
use Rattle.std.proofs.Common.{◌≡◌, ◌∙◌, ◌⊎◌, ⊎_elim, inl, inr, ℕ, ◌+◌, ◌-◌, ◌<◌, ◌≤◌, ℤ, pos, ◌+ℤ◌, ◌-ℤ◌, ◌≤ℤ◌, ◌<ℤ◌, Bool, true, false, IsTrue, List, length, get_or, refl, sym, ap, subst, arith}
use Rattle.std.proofs.lemmas.Bool.{cases_lt}
use Rattle.std.proofs.lemmas.Int.{ints, clamps, by_lt_z}
use Rattle.std.proofs.lemmas.List.{get_or_default}
use Rattle.std.proofs.Math.Bool.{true≢false}
use Rattle.std.specs.Int.{int_min, int_max}
use Rattle.ivl_laws.specs.Sets.{IsBetween, IsSubset}
use Rattle.ivl_laws.specs.Runs.{Covers, IsMaximal}
use Rattle.ivl_laws.proofs.Places.{covers_at, open_at, place_of_covered, runs_ascend}
use Rattle.ivl_laws.proofs.Products.{differences_of_intervals, sums_of_intervals}
use Rattle.ivl_images.specs.Sweeps.{run_at}
use Rattle.ivl_within.specs.Within.{SumsBy, pair_by}
use Rattle.ivl_within.specs.Fronts.{IsFront, nth_by}
use Rattle.ivl_within.proofs.Clipping.{part_of_sums}
use Rattle.ivl_within.specs.declared.within.Combined.{Combined}
use Rattle.ivl_within.specs.declared.within.Combined.TheVariants.{Sum, Difference}

-- ---- the results of a run and each run of a list, in the order in which they ascend

abbrev pub row : Combined → List (ℤ × ℤ) → ℤ × ℤ → ℕ → ℤ × ℤ
row op b p k = pair_by op p (nth_by op b k)

-- of two runs the later one begins and ends no lower
pub at_most : (b : List (ℤ × ℤ)) (i j : ℕ) → IsMaximal b → i ≤ j → j < length b → ((run_at b i).0 ≤ℤ (run_at b j).0) × ((run_at b i).1 ≤ℤ (run_at b j).1)
at_most b i j m h l = ⊎_elim
    (λ less.
    let up = runs_ascend b i j (pos 0, pos 0) m less l in
    let o = open_at b i (pos 0, pos 0) m (omega (arith, less)) in
    let o' = open_at b j (pos 0, pos 0) m l in
    (omega (arith, ints), omega (arith, ints)))
    (λ more.
    let e : i ≡ j = omega arith in
    subst (λ (n : ℕ). ((run_at b i).0 ≤ℤ (run_at b n).0) × ((run_at b i).1 ≤ℤ (run_at b n).1)) e (omega (arith, ints), omega (arith, ints)))
    (cases_lt i j)

pub row_ascends : (op : Combined) (b : List (ℤ × ℤ)) (p : ℤ × ℤ) (j k : ℕ) → IsMaximal b → j ≤ k → k < length b →
    ((row op b p j).0 ≤ℤ (row op b p k).0) × ((row op b p j).1 ≤ℤ (row op b p k).1)
row_ascends Sum b p j k m h l = let (low, high) = at_most b j k m h l in (omega (arith, ints), omega (arith, ints))
row_ascends Difference b p j k m h l =
    let (low, high) = at_most b ((length b - 1) - k) ((length b - 1) - j) m (omega arith) (omega arith) in
    (omega (arith, ints), omega (arith, ints))

-- rows ascend
row_later : (op : Combined) (b : List (ℤ × ℤ)) (p q : ℤ × ℤ) (k : ℕ) → p.0 ≤ℤ q.0 → (row op b p k).0 ≤ℤ (row op b q k).0
row_later Sum b p q k h = omega (arith, ints)
row_later Difference b p q k h = omega (arith, ints)

in_row : (op : Combined) (b : List (ℤ × ℤ)) (p : ℤ × ℤ) (z : ℤ) → SumsBy op (IsBetween p) (Covers b) z → (k : ℕ) × (k < length b) × IsBetween (row op b p k) z
in_row Sum b p z (x, y, (s, s'), c, e) = let (k, l, (t, t')) = place_of_covered b (pos 0, pos 0) y c in (k, l, (omega (arith, ints), omega (arith, ints)))
in_row Difference b p z (x, y, (s, s'), c, e) =
    let (j, l, b') = place_of_covered b (pos 0, pos 0) y c in
    let back : j ≡ (length b - 1) - ((length b - 1) - j) = omega arith in
    let (t, t') = subst (λ (i : ℕ). IsBetween (run_at b i) y) back b' in
    ((length b - 1) - j, omega arith, (omega (arith, ints), omega (arith, ints)))

pub row_within : (op : Combined) (b : List (ℤ × ℤ)) (p : ℤ × ℤ) (k : ℕ) → p.0 ≤ℤ p.1 → IsMaximal b → k < length b →
    IsSubset (IsBetween (row op b p k)) (SumsBy op (IsBetween p) (Covers b))
row_within Sum b p k filled m l z h =
    let (x, y, s, t, e) = (sums_of_intervals p (run_at b k) filled (open_at b k (pos 0, pos 0) m l) z).0 h in
    (x, y, s, covers_at b k (pos 0, pos 0) y l t, e)
row_within Difference b p k filled m l z h =
    let i = (length b - 1) - k in
    let i' : i < length b = omega arith in
    let (x, y, s, t, e) = (differences_of_intervals p (run_at b i) filled (open_at b i (pos 0, pos 0) m i') z).0 h in
    (x, y, s, covers_at b i (pos 0, pos 0) y i' t, e)

row_filled : (op : Combined) (b : List (ℤ × ℤ)) (p : ℤ × ℤ) (k : ℕ) → p.0 ≤ℤ p.1 → IsMaximal b → k < length b → (row op b p k).0 ≤ℤ (row op b p k).1
row_filled Sum b p k h m l = let o = open_at b k (pos 0, pos 0) m l in omega (arith, ints)
row_filled Difference b p k h m l = let o = open_at b ((length b - 1) - k) (pos 0, pos 0) m (omega arith) in omega (arith, ints)

module _ (whole : ℤ × ℤ) (op : Combined) (b : List (ℤ × ℤ)) (p : ℤ × ℤ) (k : ℕ) (filled : p.0 ≤ℤ p.1) (m : IsMaximal b) (l : k < length b)
    (fits : IsSubset (SumsBy op (IsBetween p) (Covers b)) (IsBetween whole)) where
  row_in_range : IsBetween whole (row op b p k).0 × IsBetween whole (row op b p k).1
  row_in_range =
      let o = row_filled op b p k filled m l in
      let least = row_within op b p k filled m l (row op b p k).0 (omega (arith, ints), o) in
      let greatest = row_within op b p k filled m l (row op b p k).1 (o, omega (arith, ints)) in
      (fits (row op b p k).0 least, fits (row op b p k).1 greatest)

-- the bounds of a result, as they are made of those of two runs
pub sum_bounds : (whole : ℤ × ℤ) (op : Combined) (b : List (ℤ × ℤ)) (p q : ℤ × ℤ) (k : ℕ) → op ≡ Sum → p.0 ≤ℤ p.1 → IsMaximal b → k < length b →
    IsSubset (SumsBy op (IsBetween p) (Covers b)) (IsBetween whole) → q ≡ get_or b k q → IsBetween whole (p.0 +ℤ q.0) × IsBetween whole (p.1 +ℤ q.1)
sum_bounds whole op b p q k e filled m l fits is =
    let fits' = subst (λ (o : Combined). IsSubset (SumsBy o (IsBetween p) (Covers b)) (IsBetween whole)) e fits in
    let here : q ≡ run_at b k = is ∙ get_or_default b k q (pos 0, pos 0) l in
    subst (λ (r : ℤ × ℤ). IsBetween whole (p.0 +ℤ r.0) × IsBetween whole (p.1 +ℤ r.1)) (sym here) (row_in_range whole Sum b p k filled m l fits')

pub difference_bounds : (whole : ℤ × ℤ) (op : Combined) (b : List (ℤ × ℤ)) (p q : ℤ × ℤ) (k : ℕ) → op ≡ Difference → p.0 ≤ℤ p.1 → IsMaximal b → k < length b →
    IsSubset (SumsBy op (IsBetween p) (Covers b)) (IsBetween whole) → q ≡ get_or b ((length b - 1) - k) q → IsBetween whole (p.0 -ℤ q.1) × IsBetween whole (p.1 -ℤ q.0)
difference_bounds whole op b p q k e filled m l fits is =
    let fits' = subst (λ (o : Combined). IsSubset (SumsBy o (IsBetween p) (Covers b)) (IsBetween whole)) e fits in
    let here : q ≡ run_at b ((length b - 1) - k) = is ∙ get_or_default b ((length b - 1) - k) q (pos 0, pos 0) (omega arith) in
    subst (λ (r : ℤ × ℤ). IsBetween whole (p.0 -ℤ r.1) × IsBetween whole (p.1 -ℤ r.0)) (sym here) (row_in_range whole Difference b p k filled m l fits')

pub sum_made : (op : Combined) (b : List (ℤ × ℤ)) (p q r : ℤ × ℤ) (k : ℕ) → op ≡ Sum → k < length b → q ≡ get_or b k q → r ≡ (p.0 +ℤ q.0, p.1 +ℤ q.1) → r ≡ row op b p k
sum_made op b p q r k e l is made =
    let here : q ≡ run_at b k = is ∙ get_or_default b k q (pos 0, pos 0) l in
    subst (λ (o : Combined). r ≡ row o b p k) (sym e) (made ∙ ap (λ (t : ℤ × ℤ). (p.0 +ℤ t.0, p.1 +ℤ t.1)) here)

pub difference_made : (op : Combined) (b : List (ℤ × ℤ)) (p q r : ℤ × ℤ) (k : ℕ) → op ≡ Difference → k < length b → q ≡ get_or b ((length b - 1) - k) q → r ≡ (p.0 -ℤ q.1, p.1 -ℤ q.0) → r ≡ row op b p k
difference_made op b p q r k e l is made =
    let here : q ≡ run_at b ((length b - 1) - k) = is ∙ get_or_default b ((length b - 1) - k) q (pos 0, pos 0) (omega arith) in
    subst (λ (o : Combined). r ≡ row o b p k) (sym e) (made ∙ ap (λ (t : ℤ × ℤ). (p.0 -ℤ t.1, p.1 -ℤ t.0)) here)

-- each result is in some row
pub in_rows : (op : Combined) (a b : List (ℤ × ℤ)) (z : ℤ) → SumsBy op (Covers a) (Covers b) z → (r : ℕ) × (r < length a) × (k : ℕ) × (k < length b) × IsBetween (row op b (run_at a r) k) z
in_rows Sum a b z (x, y, c, t, e) = let (r, l, s) = place_of_covered a (pos 0, pos 0) x c in let (k, h, i) = in_row Sum b (run_at a r) z (x, y, s, t, e) in (r, l, k, h, i)
in_rows Difference a b z (x, y, c, t, e) = let (r, l, s) = place_of_covered a (pos 0, pos 0) x c in let (k, h, i) = in_row Difference b (run_at a r) z (x, y, s, t, e) in (r, l, k, h, i)

-- the results of a row are among all
pub of_row : (op : Combined) (a b : List (ℤ × ℤ)) (r : ℕ) → r < length a → IsSubset (SumsBy op (IsBetween (run_at a r)) (Covers b)) (SumsBy op (Covers a) (Covers b))
of_row op a b r l = part_of_sums op (IsBetween (run_at a r)) (Covers a) (Covers b) (λ x s. covers_at a r (pos 0, pos 0) x l s)

pub row_fits : (op : Combined) (whole : ℤ × ℤ) (a b : List (ℤ × ℤ)) (i : ℕ) (p : ℤ × ℤ) → i < length a → p ≡ get_or a i p → IsSubset (SumsBy op (Covers a) (Covers b)) (IsBetween whole) →
    IsSubset (SumsBy op (IsBetween p) (Covers b)) (IsBetween whole)
row_fits op whole a b i p l is fits z s = fits z (part_of_sums op (IsBetween p) (Covers a) (Covers b) (λ x h. covers_at a i p x l (subst (λ (t : ℤ × ℤ). IsBetween t x) is h)) z s)

-- ---- the front after some rows

-- the rows below place i are looked at, and of the others the results from place `count` on begin above `from`
pub record IsFrontAfter (op : Combined) (whole : ℤ × ℤ) (a b : List (ℤ × ℤ)) (from : ℤ) (i count : ℕ) (is_met : Bool) (reach next : ℤ) : Type 0 where
  pub at_most : count ≤ length b
  pub above : (r k : ℕ) → i ≤ r → r < length a → count ≤ k → k < length b → from <ℤ (row op b (run_at a r) k).0
  pub reaches : from ≤ℤ reach
  pub fresh : is_met ≡ false → reach ≡ from
  pub met : IsTrue is_met → IsSubset (IsBetween (from, reach)) (SumsBy op (Covers a) (Covers b))
  pub next_above : (from <ℤ next) ⊎ (whole.1 ≤ℤ next)
  pub unmet : is_met ≡ false → (r k : ℕ) → r < i → k < length b → (z : ℤ) → IsBetween (row op b (run_at a r) k) z → from ≤ℤ z → (from <ℤ z) × (next ≤ℤ z)

pub front_begins : (op : Combined) (whole : ℤ × ℤ) (a b : List (ℤ × ℤ)) (from next : ℤ) → next ≡ whole.1 → IsFrontAfter op whole a b from 0 (length b) false from next
front_begins op whole a b from next e = record {
  at_most = omega arith;
  above = λ r k h l j j'. absurd (omega arith);
  reaches = omega (arith, ints);
  fresh = λ f. refl;
  met = λ t. absurd (true≢false (sym t));
  next_above = inr (omega (arith, ints));
  unmet = λ f r k h. absurd (omega arith);
}

pub front_met : (op : Combined) (whole : ℤ × ℤ) (a b : List (ℤ × ℤ)) (from : ℤ) (i count : ℕ) (reach next : ℤ) → IsFrontAfter op whole a b from i count true reach next →
    IsFront (SumsBy op (Covers a) (Covers b)) from true reach next
front_met op whole a b from i count reach next inv = record { met = λ t. (inv.reaches, inv.met t); unmet = λ f. absurd (true≢false f) }

module _ (op : Combined) (whole : ℤ × ℤ) (a b : List (ℤ × ℤ)) (from : ℤ) (fits : IsSubset (SumsBy op (Covers a) (Covers b)) (IsBetween whole)) where
  -- all rows are looked at
  pub front_is : (i count : ℕ) (is_met : Bool) (reach next : ℤ) → length a ≤ i → IsFrontAfter op whole a b from i count is_met reach next →
      IsFront (SumsBy op (Covers a) (Covers b)) from is_met reach next
  front_is i count is_met reach next all inv = record {
    met = λ t. (inv.reaches, inv.met t);
    unmet = λ f z s low.
        let (r, l, k, h, t) = in_rows op a b z s in
        let (above, far) = inv.unmet f r k (omega arith) h z t low in
        let in_range = (fits z s).1 in
        (⊎_elim (λ u. u) (λ u. omega (arith, ints)) inv.next_above, far);
  }

  module _ (i count : ℕ) (is_met : Bool) (reach next : ℤ) (left : IsMaximal a) (right : IsMaximal b) (inv : IsFrontAfter op whole a b from i count is_met reach next) (here : i < length a)
      (p : ℤ × ℤ) (is : p ≡ get_or a i p) (c : ℕ) (less : c ≤ count) (p_begun : 0 < c → (row op b p (c - 1)).0 ≤ℤ from) (p_not_begun : c < count → from <ℤ (row op b p c).0)
      (next' : ℤ) (p_at_place : c < length b → next' ≡ int_min next (row op b p c).0) (at_end : length b ≤ c → next' ≡ next) where
    same : p ≡ run_at a i
    same = is ∙ get_or_default a i p (pos 0, pos 0) here

    begun : 0 < c → (row op b (run_at a i) (c - 1)).0 ≤ℤ from
    begun = subst (λ (t : ℤ × ℤ). 0 < c → (row op b t (c - 1)).0 ≤ℤ from) same p_begun

    not_begun : c < count → from <ℤ (row op b (run_at a i) c).0
    not_begun = subst (λ (t : ℤ × ℤ). c < count → from <ℤ (row op b t c).0) same p_not_begun

    at_place : c < length b → next' ≡ int_min next (row op b (run_at a i) c).0
    at_place = subst (λ (t : ℤ × ℤ). c < length b → next' ≡ int_min next (row op b t c).0) same p_at_place

    row_above : (r k : ℕ) → i ≤ r → r < length a → c ≤ k → k < length b → from <ℤ (row op b (run_at a r) k).0
    row_above r k h l j j' = ⊎_elim
        (λ lt.
        let f = not_begun lt in
        let up = (row_ascends op b (run_at a i) c k right j j').0 in
        let later = row_later op b (run_at a i) (run_at a r) k (at_most a i r left h l).0 in
        omega (arith, ints))
        (λ le. inv.above r k h l (omega arith) j')
        (cases_lt c count)

    no_later : next' ≤ℤ next
    no_later = ⊎_elim (λ lt. let e = at_place lt in omega (arith, ints, clamps)) (λ le. let e = at_end le in omega (arith, ints)) (cases_lt c (length b))

    next_is_above : (from <ℤ next') ⊎ (whole.1 ≤ℤ next')
    next_is_above = ⊎_elim
        (λ lt.
        let e = at_place lt in
        let f = row_above i c (omega arith) here (omega arith) lt in
        ⊎_elim (λ u. inl (omega (arith, ints, clamps)))
        (λ u. by_lt_z (row op b (run_at a i) c).0 next (λ v. inl (omega (arith, ints, clamps))) (λ v. inr (omega (arith, ints, clamps)))) inv.next_above)
        (λ le. let e = at_end le in ⊎_elim (λ u. inl (omega (arith, ints))) (λ u. inr (omega (arith, ints))) inv.next_above)
        (cases_lt c (length b))

    -- the results from the place on, in this row or a later one, are at `next'` or above
    from_place : (r k : ℕ) → i ≤ r → r < length a → c ≤ k → k < length b → (z : ℤ) → IsBetween (row op b (run_at a r) k) z → (from <ℤ z) × (next' ≤ℤ z)
    from_place r k h l j j' z (low, high) =
        let f = row_above r k h l j j' in
        let e = at_place (omega arith) in
        let up = (row_ascends op b (run_at a i) c k right j j').0 in
        let later = row_later op b (run_at a i) (run_at a r) k (at_most a i r left h l).0 in
        (omega (arith, ints), omega (arith, ints, clamps))

    -- no result of this row or a later one begins up to the number
    pub front_at_none : c ≡ 0 → IsFront (SumsBy op (Covers a) (Covers b)) from is_met reach next'
    front_at_none none = record {
      met = λ t. (inv.reaches, inv.met t);
      unmet = λ f z s low.
          let (r, l, k, h, t) = in_rows op a b z s in
          let in_range = (fits z s).1 in
          let (above, far) = ⊎_elim
          (λ lt. let (u, v) = inv.unmet f r k lt h z t low in let w = no_later in (u, omega (arith, ints)))
          (λ le. from_place r k le l (omega arith) h z t)
          (cases_lt r i) in
          (⊎_elim (λ u. u) (λ u. omega (arith, ints)) next_is_above, far);
    }

    module _ (some : 0 < c) (end : ℤ) (p_ends : end ≡ (row op b p (c - 1)).1) where
      ends : end ≡ (row op b (run_at a i) (c - 1)).1
      ends = p_ends ∙ ap (λ (t : ℤ × ℤ). (row op b t (c - 1)).1) same

      -- the last of the results that begin up to the number ends below it
      pub front_stays : end <ℤ from → IsFrontAfter op whole a b from (i + 1) c is_met reach next'
      front_stays low = record {
        at_most = let h = inv.at_most in omega arith;
        above = λ r k h l j j'. row_above r k (omega arith) l j j';
        reaches = inv.reaches;
        fresh = inv.fresh;
        met = inv.met;
        next_above = next_is_above;
        unmet = λ f r k h j z t from_here. ⊎_elim
            (λ lt. let (u, v) = inv.unmet f r k lt j z t from_here in let w = no_later in (u, omega (arith, ints)))
            (λ le. let r_is : r ≡ i = omega arith in
            let t' = subst (λ (n : ℕ). IsBetween (row op b (run_at a n) k) z) r_is t in
            ⊎_elim
            (λ before. let up = (row_ascends op b (run_at a i) k (c - 1) right (omega arith) (let m = inv.at_most in omega arith)).1 in let high = t'.1 in let e = ends in absurd (omega (arith, ints)))
            (λ after. from_place i k (omega arith) here after j z t')
            (cases_lt k c))
            (cases_lt r i);
      }

      reached : from ≤ℤ end → IsSubset (IsBetween (from, end)) (SumsBy op (Covers a) (Covers b))
      reached h z (low, high) =
          let f = begun some in
          let e = ends in
          let m = inv.at_most in
          of_row op a b i here z (row_within op b (run_at a i) (c - 1) (open_at a i (pos 0, pos 0) left here) right (omega arith) z (omega (arith, ints), omega (arith, ints)))

      -- it meets the number
      pub front_meets : (reach' : ℤ) → from ≤ℤ end → reach' ≡ int_max reach end → IsFrontAfter op whole a b from (i + 1) c true reach' next'
      front_meets reach' h e = record {
        at_most = let m = inv.at_most in omega arith;
        above = λ r k j l n n'. row_above r k (omega arith) l n n';
        reaches = let m = inv.reaches in omega (arith, ints, clamps);
        fresh = λ f. absurd (true≢false f);
        met = λ t z (low, high). by_lt_z end z
            (λ beyond. old is_met refl z (low, omega (arith, ints, clamps)) beyond)
            (λ within. reached h z (low, within));
        next_above = next_is_above;
        unmet = λ f. absurd (true≢false f);
      }
        where
          old : (m : Bool) → is_met ≡ m → (z : ℤ) → IsBetween (from, reach) z → end <ℤ z → SumsBy op (Covers a) (Covers b) z
          old true is z t beyond = inv.met is z t
          old false is z t beyond = let at_from = inv.fresh is in let high = t.1 in absurd (omega (arith, ints))
