-- Whether results fit, by the least intervals that hold the sets.
use Rattle.std.proofs.Common.{◌≡◌, ◌↔◌, ◌∙◌, ℕ, ◌+◌, ℤ, ◌+ℤ◌, ◌-ℤ◌, ◌*ℤ◌, ◌≤ℤ◌, List, length, get_or, refl, sym, ap, subst, arith}
use Rattle.std.proofs.lemmas.Int.{ints}
use Rattle.std.specs.Int.{int_min, int_max}
use Rattle.ivl_laws.specs.Sets.{IsBetween, IsSubset, Sums, Differences, ExactProducts, IsHullOf}
use Rattle.ivl_laws.specs.Runs.{Covers, IsMaximal}
use Rattle.ivl_laws.proofs.Runs.{≤ℤ_trans}
use Rattle.ivl_laws.proofs.Ranges.{first_is_least, last_is_greatest}
use Rattle.ivl_laws.proofs.Products.{by_min, by_max, times_within, times_within_right}
use Rattle.ivl_laws.proofs.SetLaws.{sums_are_monotone, differences_are_monotone, exact_products_are_monotone}

-- ---- the hull of the first set
module _ (S T : ℤ → Type 0) (p whole : ℤ × ℤ) (h : IsHullOf p S) where
  same : IsSubset T T
  same z t = t

  pub sums_by_hull : IsSubset (Sums (IsBetween p) T) (IsBetween whole) ↔ IsSubset (Sums S T) (IsBetween whole)
  sums_by_hull = (
    (λ f z r. f z (sums_are_monotone S (IsBetween p) T T h.holds same z r)),
    (λ f z (x, y, (a, b), t, e).
        let ends = h.ends (≤ℤ_trans p.0 x p.1 a b) in
        let (low, l) = f (p.0 +ℤ y) (p.0, y, ends.0, t, refl) in
        let (u, high) = f (p.1 +ℤ y) (p.1, y, ends.1, t, refl) in
        (omega (arith, ints), omega (arith, ints))),
  )

  pub differences_by_hull : IsSubset (Differences (IsBetween p) T) (IsBetween whole) ↔ IsSubset (Differences S T) (IsBetween whole)
  differences_by_hull = (
    (λ f z r. f z (differences_are_monotone S (IsBetween p) T T h.holds same z r)),
    (λ f z (x, y, (a, b), t, e).
        let ends = h.ends (≤ℤ_trans p.0 x p.1 a b) in
        let (low, l) = f (p.0 -ℤ y) (p.0, y, ends.0, t, refl) in
        let (u, high) = f (p.1 -ℤ y) (p.1, y, ends.1, t, refl) in
        (omega (arith, ints), omega (arith, ints))),
  )

  pub products_by_hull : IsSubset (ExactProducts (IsBetween p) T) (IsBetween whole) ↔ IsSubset (ExactProducts S T) (IsBetween whole)
  products_by_hull = (
    (λ f z r. f z (exact_products_are_monotone S (IsBetween p) T T h.holds same z r)),
    (λ f z (x, y, (a, b), t, e).
        let ends = h.ends (≤ℤ_trans p.0 x p.1 a b) in
        let low = f (p.0 *ℤ y) (p.0, y, ends.0, t, refl) in
        let high = f (p.1 *ℤ y) (p.1, y, ends.1, t, refl) in
        let least = by_min (IsBetween whole) (p.0 *ℤ y) (p.1 *ℤ y) low high in
        let greatest = by_max (IsBetween whole) (p.0 *ℤ y) (p.1 *ℤ y) low high in
        let within = times_within p.0 p.1 x y a b in
        subst (λ (w : ℤ). IsBetween whole w) e (
          ≤ℤ_trans whole.0 (int_min (p.0 *ℤ y) (p.1 *ℤ y)) (x *ℤ y) least.0 within.0,
          ≤ℤ_trans (x *ℤ y) (int_max (p.0 *ℤ y) (p.1 *ℤ y)) whole.1 within.1 greatest.1,
        )),
  )

-- ---- the hulls of both
module _ (S T : ℤ → Type 0) (p q whole : ℤ × ℤ) (h : IsHullOf p S) (k : IsHullOf q T) where
  self : IsSubset S S
  self z s = s

  pub sums_by_hulls : IsSubset (Sums (IsBetween p) (IsBetween q)) (IsBetween whole) ↔ IsSubset (Sums S T) (IsBetween whole)
  sums_by_hulls = (
    (λ f z r. f z (sums_are_monotone S (IsBetween p) T (IsBetween q) h.holds k.holds z r)),
    (λ f. (sums_by_hull S (IsBetween q) p whole h).1 (λ z (x, y, s, (a, b), e).
        let ends = k.ends (≤ℤ_trans q.0 y q.1 a b) in
        let (low, l) = f (x +ℤ q.0) (x, q.0, s, ends.0, refl) in
        let (u, high) = f (x +ℤ q.1) (x, q.1, s, ends.1, refl) in
        (omega (arith, ints), omega (arith, ints)))),
  )

  pub differences_by_hulls : IsSubset (Differences (IsBetween p) (IsBetween q)) (IsBetween whole) ↔ IsSubset (Differences S T) (IsBetween whole)
  differences_by_hulls = (
    (λ f z r. f z (differences_are_monotone S (IsBetween p) T (IsBetween q) h.holds k.holds z r)),
    (λ f. (differences_by_hull S (IsBetween q) p whole h).1 (λ z (x, y, s, (a, b), e).
        let ends = k.ends (≤ℤ_trans q.0 y q.1 a b) in
        let (low, l) = f (x -ℤ q.1) (x, q.1, s, ends.1, refl) in
        let (u, high) = f (x -ℤ q.0) (x, q.0, s, ends.0, refl) in
        (omega (arith, ints), omega (arith, ints)))),
  )

  pub products_by_hulls : IsSubset (ExactProducts (IsBetween p) (IsBetween q)) (IsBetween whole) ↔ IsSubset (ExactProducts S T) (IsBetween whole)
  products_by_hulls = (
    (λ f z r. f z (exact_products_are_monotone S (IsBetween p) T (IsBetween q) h.holds k.holds z r)),
    (λ f. (products_by_hull S (IsBetween q) p whole h).1 (λ z (x, y, s, (a, b), e).
        let ends = k.ends (≤ℤ_trans q.0 y q.1 a b) in
        let low = f (x *ℤ q.0) (x, q.0, s, ends.0, refl) in
        let high = f (x *ℤ q.1) (x, q.1, s, ends.1, refl) in
        let least = by_min (IsBetween whole) (x *ℤ q.0) (x *ℤ q.1) low high in
        let greatest = by_max (IsBetween whole) (x *ℤ q.0) (x *ℤ q.1) low high in
        let within = times_within_right q.0 q.1 y x a b in
        subst (λ (w : ℤ). IsBetween whole w) e (
          ≤ℤ_trans whole.0 (int_min (x *ℤ q.0) (x *ℤ q.1)) (x *ℤ y) least.0 within.0,
          ≤ℤ_trans (x *ℤ y) (int_max (x *ℤ q.0) (x *ℤ q.1)) whole.1 within.1 greatest.1,
        ))),
  )

pub told : {P Q R : Type 0} → (P ↔ Q) → (Q ↔ R) → P ↔ R
told e f = ((λ p. f.0 (e.0 p)), (λ r. e.1 (f.1 r)))

-- ---- the hull of a run list, by its first and its last run
pub hull_of_ends : (L L' : List (ℤ × ℤ)) (k : ℕ) (a b r : ℤ × ℤ) → L ≡ L' → IsMaximal L' → k + 1 ≡ length L → a ≡ get_or L 0 a → b ≡ get_or L k b → r.0 ≡ a.0 → r.1 ≡ b.1 → IsHullOf r (Covers L')
hull_of_ends L L' k a b r e m h f g low high =
    let m' = subst IsMaximal (sym e) m in
    let first = first_is_least L a m' (omega arith) in
    let last = last_is_greatest L k b m' h in
    let low' : r.0 ≡ (get_or L 0 a).0 = low ∙ ap (λ (t : ℤ × ℤ). t.0) f in
    let high' : r.1 ≡ (get_or L k b).1 = high ∙ ap (λ (t : ℤ × ℤ). t.1) g in
    subst (λ (N : List (ℤ × ℤ)). IsHullOf r (Covers N)) e (record {
      holds = λ z c. (subst (λ (t : ℤ). t ≤ℤ z) (sym low') (first.1 z c), subst (λ (t : ℤ). z ≤ℤ t) (sym high') (last.1 z c));
      ends = λ _. (subst (Covers L) (sym low') first.0, subst (Covers L) (sym high') last.0);
    })
