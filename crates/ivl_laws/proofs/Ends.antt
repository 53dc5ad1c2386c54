-- The ends of the runs of sums, differences and products are results of ends.
use Rattle.std.proofs.Common.{◌≡◌, ◌⊎◌, inl, inr, ℤ, ◌+ℤ◌, ◌-ℤ◌, ◌*ℤ◌, List, [], ◌∷◌, refl, sym, ap, subst, ◌∙◌}
use Rattle.ivl_laws.specs.Sets.{Sums, Differences, Products}
use Rattle.ivl_laws.specs.Runs.{Covers, IsMaximal, IsRunsOf}
use Rattle.ivl_laws.specs.Counts.{IsIn}
use Rattle.ivl_laws.specs.Arithmetic.{pairwise, interval_sum, interval_difference, corner_hull}
use Rattle.ivl_laws.proofs.Products.{by_corners, of_pairwise, sums_of_runs, differences_of_runs, products_of_runs}
use Rattle.ivl_laws.proofs.SetLaws.{IsRunsOf-same}
use Rattle.ivl_laws.proofs.Places.{lower_of_some, upper_of_some}

-- x is the lower or the upper number of some pair
abbrev pub IsEndIn : List (ℤ × ℤ) → ℤ → Type 0
IsEndIn [] x = ⊥
IsEndIn (p ∷ L) x = (x ≡ p.0) ⊎ ((x ≡ p.1) ⊎ IsEndIn L x)

pub lower_is_end : (L : List (ℤ × ℤ)) (p : ℤ × ℤ) → IsIn L p → IsEndIn L p.0
lower_is_end [] p i = i
lower_is_end (q ∷ L) p (inl e) = inl (ap (λ (r : ℤ × ℤ). r.0) e)
lower_is_end (q ∷ L) p (inr i) = inr (inr (lower_is_end L p i))

pub upper_is_end : (L : List (ℤ × ℤ)) (p : ℤ × ℤ) → IsIn L p → IsEndIn L p.1
upper_is_end [] p i = i
upper_is_end (q ∷ L) p (inl e) = inr (inl (ap (λ (r : ℤ × ℤ). r.1) e))
upper_is_end (q ∷ L) p (inr i) = inr (inr (upper_is_end L p i))

-- t is the result of an end of L and an end of M
abbrev pub IsOfEnds : (ℤ → ℤ → ℤ) → List (ℤ × ℤ) → List (ℤ × ℤ) → ℤ → Type 0
IsOfEnds op L M t = (x : ℤ) × (y : ℤ) × IsEndIn L x × IsEndIn M y × (op x y ≡ t)

-- where both ends of f p q are results of ends of p and q, the ends of the runs of what the list covers are such results
pub ends_by_pairs : (op : ℤ → ℤ → ℤ) (f : ℤ × ℤ → ℤ × ℤ → ℤ × ℤ) (R L M : List (ℤ × ℤ)) (r : ℤ × ℤ) →
    ((p q : ℤ × ℤ) → IsIn L p → IsIn M q → IsOfEnds op L M (f p q).0 × IsOfEnds op L M (f p q).1) → IsRunsOf R (Covers (pairwise f L M)) → IsIn R r → IsOfEnds op L M r.0 × IsOfEnds op L M r.1
ends_by_pairs op f R L M r g h i =
    let (s, j, b, e) = lower_of_some R (pairwise f L M) r h i in
    let (t, k, d, u) = upper_of_some R (pairwise f L M) r h i in
    let (p, q, jp, jq, es) = of_pairwise f L M s j in
    let (p', q', kp, kq, et) = of_pairwise f L M t k in (
      subst (IsOfEnds op L M) (sym (ap (λ (w : ℤ × ℤ). w.0) es) ∙ e) (g p q jp jq).0,
      subst (IsOfEnds op L M) (sym (ap (λ (w : ℤ × ℤ). w.1) et) ∙ u) (g p' q' kp kq).1,
    )

module _ (R L M : List (ℤ × ℤ)) (r : ℤ × ℤ) (l : IsMaximal L) (m : IsMaximal M) where
  pub ends_of_sums : IsRunsOf R (Sums (Covers L) (Covers M)) → IsIn R r → IsOfEnds (λ x y. x +ℤ y) L M r.0 × IsOfEnds (λ x y. x +ℤ y) L M r.1
  ends_of_sums h i = ends_by_pairs (λ x y. x +ℤ y) interval_sum R L M r
      (λ p q a b. ((p.0, q.0, lower_is_end L p a, lower_is_end M q b, refl), (p.1, q.1, upper_is_end L p a, upper_is_end M q b, refl)))
      (IsRunsOf-same (Sums (Covers L) (Covers M)) (Covers (pairwise interval_sum L M)) R (λ z. sums_of_runs L M z l m) h) i

  pub ends_of_differences : IsRunsOf R (Differences (Covers L) (Covers M)) → IsIn R r → IsOfEnds (λ x y. x -ℤ y) L M r.0 × IsOfEnds (λ x y. x -ℤ y) L M r.1
  ends_of_differences h i = ends_by_pairs (λ x y. x -ℤ y) interval_difference R L M r
      (λ p q a b. ((p.0, q.1, lower_is_end L p a, upper_is_end M q b, refl), (p.1, q.0, upper_is_end L p a, lower_is_end M q b, refl)))
      (IsRunsOf-same (Differences (Covers L) (Covers M)) (Covers (pairwise interval_difference L M)) R (λ z. differences_of_runs L M z l m) h) i

  pub ends_of_products : IsRunsOf R (Products (Covers L) (Covers M)) → IsIn R r → IsOfEnds (λ x y. x *ℤ y) L M r.0 × IsOfEnds (λ x y. x *ℤ y) L M r.1
  ends_of_products h i = ends_by_pairs (λ x y. x *ℤ y) corner_hull R L M r
      (λ p q a b. by_corners (IsOfEnds (λ x y. x *ℤ y) L M) p q
      (p.0, q.0, lower_is_end L p a, lower_is_end M q b, refl)
      (p.0, q.1, lower_is_end L p a, upper_is_end M q b, refl)
      (p.1, q.0, upper_is_end L p a, lower_is_end M q b, refl)
      (p.1, q.1, upper_is_end L p a, upper_is_end M q b, refl))
      (IsRunsOf-same (Products (Covers L) (Covers M)) (Covers (pairwise corner_hull L M)) R (λ z. products_of_runs L M z l m) h) i
