-- Whether all results over two run lists lie in a range, or some result lies outside.
use Rattle.std.proofs.Common.{◌≡◌, ◌⊎◌, ⊎_elim, inl, inr, ℤ, ◌+ℤ◌, ◌-ℤ◌, ◌*ℤ◌, ◌≤ℤ◌, List, [], ◌∷◌, refl, arith}
use Rattle.std.proofs.lemmas.Int.{ints, by_lt_z}
use Rattle.ivl_laws.specs.Sets.{Differences, ExactProducts, HasSome, IsBetween, IsHullOf, IsSubset, Products, Sums, Without}
use Rattle.ivl_laws.specs.Runs.{Covers}
use Rattle.ivl_laws.specs.Arithmetic.{corner_hull, interval_difference, interval_sum}
use Rattle.ivl_laws.proofs.Runs.{lower_end, ≤ℤ_trans}
use Rattle.ivl_laws.proofs.Intervals.{in_range_is_within, none_is_crossed}
use Rattle.ivl_laws.proofs.Products.{differences_of_intervals, hull_of_products, sums_of_intervals}
use Rattle.ivl_laws.proofs.SetLaws.{exact_products_are_products}
use Rattle.ivl_laws.proofs.Spans.{IsHullOf-same, hull_of_between}

-- Sums, Differences and ExactProducts are the results of an operation over one member of each
abbrev Results : (ℤ → ℤ → ℤ) → (ℤ → Type 0) → (ℤ → Type 0) → ℤ → Type 0
Results op S T z = (x : ℤ) × (y : ℤ) × S x × T y × (op x y ≡ z)

abbrev InOrOut : ℤ × ℤ → (ℤ → Type 0) → Type 0
InOrOut w S = IsSubset S (IsBetween w) ⊎ HasSome (Without S (IsBetween w))

module _ (w : ℤ × ℤ) (op : ℤ → ℤ → ℤ) (f : ℤ × ℤ → ℤ × ℤ → ℤ × ℤ)
    (hull : (p q : ℤ × ℤ) → p.0 ≤ℤ p.1 → q.0 ≤ℤ q.1 → IsHullOf (f p q) (Results op (IsBetween p) (IsBetween q))) where
  of_two : (p q : ℤ × ℤ) → p.0 ≤ℤ p.1 → q.0 ≤ℤ q.1 → InOrOut w (Results op (IsBetween p) (IsBetween q))
  of_two p q o k =
      let h : IsHullOf (f p q) (Results op (IsBetween p) (IsBetween q)) = hull p q o k in
      let first = h.holds (op p.0 q.0) (p.0, q.0, lower_end p o, lower_end q k, refl) in
      let ends = h.ends (≤ℤ_trans (f p q).0 (op p.0 q.0) (f p q).1 first.0 first.1) in
      by_lt_z (f p q).0 w.0
      (λ low. inr ((f p q).0, (ends.0, λ b. let u = b.0 in omega (arith, ints))))
      (λ low. by_lt_z w.1 (f p q).1
      (λ high. inr ((f p q).1, (ends.1, λ b. let u = b.1 in omega (arith, ints))))
      (λ high. inl (λ z r. in_range_is_within w (f p q) (low, high) z (h.holds z r))))

  of_row : (p : ℤ × ℤ) (M : List (ℤ × ℤ)) → p.0 ≤ℤ p.1 → InOrOut w (Results op (IsBetween p) (Covers M))
  of_row p [] o = inl (λ z (x, y, s, t, e). absurd t)
  of_row p (q ∷ M) o = ⊎_elim
      (λ rest. by_lt_z q.1 q.0
      (λ crossed. inl (λ z (x, y, s, t, e). ⊎_elim (λ b. absurd ((none_is_crossed q).1 crossed y b)) (λ m. rest z (x, y, s, m, e)) t))
      (λ k. ⊎_elim
      (λ first. inl (λ z (x, y, s, t, e). ⊎_elim (λ b. first z (x, y, s, b, e)) (λ m. rest z (x, y, s, m, e)) t))
      (λ (z, ((x, y, s, t, e), n)). inr (z, ((x, y, s, inl t, e), n)))
      (of_two p q o k)))
      (λ (z, ((x, y, s, t, e), n)). inr (z, ((x, y, s, inr t, e), n)))
      (of_row p M o)

  of_lists : (L M : List (ℤ × ℤ)) → InOrOut w (Results op (Covers L) (Covers M))
  of_lists [] M = inl (λ z (x, y, s, t, e). absurd s)
  of_lists (p ∷ L) M = ⊎_elim
      (λ rest. by_lt_z p.1 p.0
      (λ crossed. inl (λ z (x, y, s, t, e). ⊎_elim (λ b. absurd ((none_is_crossed p).1 crossed x b)) (λ m. rest z (x, y, m, t, e)) s))
      (λ o. ⊎_elim
      (λ first. inl (λ z (x, y, s, t, e). ⊎_elim (λ b. first z (x, y, b, t, e)) (λ m. rest z (x, y, m, t, e)) s))
      (λ (z, ((x, y, s, t, e), n)). inr (z, ((x, y, inl s, t, e), n)))
      (of_row p M o)))
      (λ (z, ((x, y, s, t, e), n)). inr (z, ((x, y, inr s, t, e), n)))
      (of_lists L M)

module _ (w : ℤ × ℤ) (L M : List (ℤ × ℤ)) where
  pub some_sum_outside : (¬ (IsSubset (Sums (Covers L) (Covers M)) (IsBetween w))) → HasSome (Without (Sums (Covers L) (Covers M)) (IsBetween w))
  some_sum_outside n = ⊎_elim (λ within. absurd (n within)) (λ out. out)
      (of_lists w (λ x y. x +ℤ y) interval_sum
      (λ p q o k. IsHullOf-same (IsBetween (interval_sum p q)) (Sums (IsBetween p) (IsBetween q)) (interval_sum p q) (sums_of_intervals p q o k) (hull_of_between (interval_sum p q))) L M)

  pub some_difference_outside : (¬ (IsSubset (Differences (Covers L) (Covers M)) (IsBetween w))) → HasSome (Without (Differences (Covers L) (Covers M)) (IsBetween w))
  some_difference_outside n = ⊎_elim (λ within. absurd (n within)) (λ out. out)
      (of_lists w (λ x y. x -ℤ y) interval_difference
      (λ p q o k. IsHullOf-same (IsBetween (interval_difference p q)) (Differences (IsBetween p) (IsBetween q)) (interval_difference p q) (differences_of_intervals p q o k) (hull_of_between (interval_difference p q))) L M)

  pub some_product_outside : (¬ (IsSubset (ExactProducts (Covers L) (Covers M)) (IsBetween w))) → HasSome (Without (Products (Covers L) (Covers M)) (IsBetween w))
  some_product_outside n = ⊎_elim (λ within. absurd (n within))
      (λ (z, (e, out)). (z, (exact_products_are_products (Covers L) (Covers M) z e, out)))
      (of_lists w (λ x y. x *ℤ y) corner_hull (λ p q o k. hull_of_products p q o k) L M)
