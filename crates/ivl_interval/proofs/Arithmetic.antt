-- Sums, differences and products of intervals by their ends, and when they are in a range.
use Rattle.std.proofs.Common.{◌≡◌, ℤ, ◌+ℤ◌, ◌-ℤ◌, ◌*ℤ◌, ◌≤ℤ◌, ◌↔◌, IsTrue, Bool, true, false, arith, refl, sym, subst, ◌∙◌}
use Rattle.std.specs.Int.{int_max, int_min}
use Rattle.std.proofs.lemmas.Int.{ints, clamps}
use Rattle.ivl_laws.specs.Sets.{Differences, ExactProducts, IsBetween, IsCrossed, IsHullOf, IsInRange, IsSubset, Only, SameMembers, Sums}
use Rattle.ivl_laws.specs.Arithmetic.{corner_hull}
use Rattle.ivl_laws.proofs.Intervals.{in_range_is_within, moved, moved_down, not_crossed}
use Rattle.ivl_laws.proofs.Products.{by_corners, differences_of_intervals, hull_of_products, product_within, sums_of_intervals}

-- ---- the ends are members

pub ordered : (p : ℤ × ℤ) (l u : ℤ) → (l, u) ≡ p → ¬ (IsCrossed p) → l ≤ℤ u
ordered p l u e n = let o = not_crossed p n in rw (← e) at o

pub lower_of : (p : ℤ × ℤ) (l u : ℤ) → (l, u) ≡ p → ¬ (IsCrossed p) → IsBetween p l
lower_of p l u e n = let o = ordered p l u e n in rw (← e) (omega (arith, ints), o)

pub upper_of : (p : ℤ × ℤ) (l u : ℤ) → (l, u) ≡ p → ¬ (IsCrossed p) → IsBetween p u
upper_of p l u e n = let o = ordered p l u e n in rw (← e) (o, omega (arith, ints))

-- ---- results by the ends

pub sums_by_ends : (a b r : ℤ × ℤ) (al au bl bu l u : ℤ) → (al, au) ≡ a → (bl, bu) ≡ b → ¬ (IsCrossed a) → ¬ (IsCrossed b)
    → r ≡ (l, u) → l ≡ al +ℤ bl → u ≡ au +ℤ bu → SameMembers (IsBetween r) (Sums (IsBetween a) (IsBetween b))
sums_by_ends a b r al au bl bu l u ea eb na nb er el eu =
    rw (← ea, ← eb, er, el, eu) (sums_of_intervals (al, au) (bl, bu) (ordered a al au ea na) (ordered b bl bu eb nb))

pub sums_with_by_ends : (a r : ℤ × ℤ) (al au v l u : ℤ) → (al, au) ≡ a → r ≡ (l, u) → l ≡ al +ℤ v → u ≡ au +ℤ v
    → SameMembers (IsBetween r) (Sums (IsBetween a) (Only v))
sums_with_by_ends a r al au v l u ea er el eu = rw (← ea, er, el, eu) (moved (al, au) (al +ℤ v, au +ℤ v) v refl refl)

pub differences_by_ends : (a b r : ℤ × ℤ) (al au bl bu l u : ℤ) → (al, au) ≡ a → (bl, bu) ≡ b → ¬ (IsCrossed a) → ¬ (IsCrossed b)
    → r ≡ (l, u) → l ≡ al -ℤ bu → u ≡ au -ℤ bl → SameMembers (IsBetween r) (Differences (IsBetween a) (IsBetween b))
differences_by_ends a b r al au bl bu l u ea eb na nb er el eu =
    rw (← ea, ← eb, er, el, eu) (differences_of_intervals (al, au) (bl, bu) (ordered a al au ea na) (ordered b bl bu eb nb))

pub differences_with_by_ends : (a r : ℤ × ℤ) (al au v l u : ℤ) → (al, au) ≡ a → r ≡ (l, u) → l ≡ al -ℤ v → u ≡ au -ℤ v
    → SameMembers (IsBetween r) (Differences (IsBetween a) (Only v))
differences_with_by_ends a r al au v l u ea er el eu = rw (← ea, er, el, eu) (moved_down (al, au) (al -ℤ v, au -ℤ v) v refl refl)

pub products_by_ends : (a b r : ℤ × ℤ) (al au bl bu l u : ℤ) → (al, au) ≡ a → (bl, bu) ≡ b → ¬ (IsCrossed a) → ¬ (IsCrossed b)
    → r ≡ (l, u) → l ≡ (corner_hull (al, au) (bl, bu)).0 → u ≡ (corner_hull (al, au) (bl, bu)).1 → IsHullOf r (ExactProducts (IsBetween a) (IsBetween b))
products_by_ends a b r al au bl bu l u ea eb na nb er el eu =
    rw (← ea, ← eb, er, el, eu) (hull_of_products (al, au) (bl, bu) (ordered a al au ea na) (ordered b bl bu eb nb))

-- the corners are in the range, and so is what lies between them
pub corners_in_range : (whole : ℤ × ℤ) (al au bl bu l u : ℤ) → l ≡ (corner_hull (al, au) (bl, bu)).0 → u ≡ (corner_hull (al, au) (bl, bu)).1
    → IsBetween whole (al *ℤ bl) → IsBetween whole (al *ℤ bu) → IsBetween whole (au *ℤ bl) → IsBetween whole (au *ℤ bu) → IsInRange whole (l, u)
corners_in_range whole al au bl bu l u el eu m n p q =
    let h = by_corners (IsBetween whole) (al, au) (bl, bu) m n p q in
    rw (el, eu) (h.0.0, h.1.1)

module _ (al au bl bu ll lh hl hh m n e : ℤ) (ll_is : ll ≡ al *ℤ bl) (lh_is : lh ≡ al *ℤ bu) (hl_is : hl ≡ au *ℤ bl) (hh_is : hh ≡ au *ℤ bu) where
  pub least_corner : m ≡ int_min ll lh → n ≡ int_min hl hh → e ≡ int_min m n → e ≡ (corner_hull (al, au) (bl, bu)).0
  least_corner f g h = rw (h, f, g, ll_is, lh_is, hl_is, hh_is)

  pub greatest_corner : m ≡ int_max ll lh → n ≡ int_max hl hh → e ≡ int_max m n → e ≡ (corner_hull (al, au) (bl, bu)).1
  greatest_corner f g h = rw (h, f, g, ll_is, lh_is, hl_is, hh_is)

min_twice : (x y : ℤ) → int_min (int_min x x) (int_min y y) ≡ int_min x y
min_twice x y = omega (arith, ints, clamps)

max_twice : (x y : ℤ) → int_max (int_max x x) (int_max y y) ≡ int_max x y
max_twice x y = omega (arith, ints, clamps)

products_with_only : (p r : ℤ × ℤ) (v : ℤ) → IsHullOf r (ExactProducts (IsBetween p) (IsBetween (v, v))) → IsHullOf r (ExactProducts (IsBetween p) (Only v))
products_with_only p r v h = record {
  holds = λ z (x, y, m, k, e). h.holds z (x, y, m, (omega (arith, ints, k), omega (arith, ints, k)), e);
  ends = λ o. let (s, t) = h.ends o in (only_of r.0 s, only_of r.1 t);
}
  where
    only_of : (z : ℤ) → ExactProducts (IsBetween p) (IsBetween (v, v)) z → ExactProducts (IsBetween p) (Only v) z
    only_of z (x, y, m, k, e) = (x, y, m, omega (arith, ints, k.0, k.1), e)

pub products_with_by_ends : (a r : ℤ × ℤ) (al au v l u : ℤ) → (al, au) ≡ a → ¬ (IsCrossed a) → r ≡ (l, u)
    → l ≡ int_min (al *ℤ v) (au *ℤ v) → u ≡ int_max (al *ℤ v) (au *ℤ v) → IsHullOf r (ExactProducts (IsBetween a) (Only v))
products_with_by_ends a r al au v l u ea na er el eu =
    let k : l ≡ int_min (int_min (al *ℤ v) (al *ℤ v)) (int_min (au *ℤ v) (au *ℤ v)) = el ∙ sym (min_twice (al *ℤ v) (au *ℤ v)) in
    let j : u ≡ int_max (int_max (al *ℤ v) (al *ℤ v)) (int_max (au *ℤ v) (au *ℤ v)) = eu ∙ sym (max_twice (al *ℤ v) (au *ℤ v)) in
    products_with_only a r v (rw (← ea, er, k, j) (hull_of_products (al, au) (v, v) (ordered a al au ea na) (omega (arith, ints))))

pub two_in_range : (whole : ℤ × ℤ) (x y l u : ℤ) → l ≡ int_min x y → u ≡ int_max x y → IsBetween whole x → IsBetween whole y → IsInRange whole (l, u)
two_in_range whole x y l u e f m n = (omega (arith, ints, clamps, m.0, n.0, e), omega (arith, ints, clamps, m.1, n.1, f))

-- ---- whether the results are in a range, by the ends

pub fits_then : {P Q R : Type 0} (r : Bool) → P → (IsTrue r ↔ Q) → ((P × Q) ↔ R) → IsTrue r ↔ R
fits_then r p e f = ((λ t. f.0 (p, e.0 t)), (λ h. e.1 (f.1 h).1))

pub fits_else : {P Q R : Type 0} (r : Bool) → r ≡ false → (IsTrue r ↔ P) → ((P × Q) ↔ R) → IsTrue r ↔ R
fits_else r o e f = ((λ t. absurd (let k : ◌≡◌ {A = Bool} true false = sym t ∙ o in cc)), (λ h. e.1 (f.1 h).0))

pub sums_fit : (whole a b : ℤ × ℤ) (al au bl bu : ℤ) → (al, au) ≡ a → (bl, bu) ≡ b → ¬ (IsCrossed a) → ¬ (IsCrossed b)
    → (IsBetween whole (al +ℤ bl) × IsBetween whole (au +ℤ bu)) ↔ IsSubset (Sums (IsBetween a) (IsBetween b)) (IsBetween whole)
sums_fit whole a b al au bl bu ea eb na nb = (
  rw (← ea, ← eb) (λ (h, k) z (x, y, m, n, e). (omega (arith, ints, h.0, m.0, n.0, e), omega (arith, ints, k.1, m.1, n.1, e))),
  λ s. (s _ (al, bl, lower_of a al au ea na, lower_of b bl bu eb nb, refl), s _ (au, bu, upper_of a al au ea na, upper_of b bl bu eb nb, refl)),
)

pub sums_with_fit : (whole a : ℤ × ℤ) (al au v : ℤ) → (al, au) ≡ a → ¬ (IsCrossed a)
    → (IsBetween whole (al +ℤ v) × IsBetween whole (au +ℤ v)) ↔ IsSubset (Sums (IsBetween a) (Only v)) (IsBetween whole)
sums_with_fit whole a al au v ea na = (
  rw (← ea) (λ (h, k) z (x, y, m, n, e). (omega (arith, ints, h.0, m.0, n, e), omega (arith, ints, k.1, m.1, n, e))),
  λ s. (s _ (al, v, lower_of a al au ea na, refl, refl), s _ (au, v, upper_of a al au ea na, refl, refl)),
)

pub differences_fit : (whole a b : ℤ × ℤ) (al au bl bu : ℤ) → (al, au) ≡ a → (bl, bu) ≡ b → ¬ (IsCrossed a) → ¬ (IsCrossed b)
    → (IsBetween whole (al -ℤ bu) × IsBetween whole (au -ℤ bl)) ↔ IsSubset (Differences (IsBetween a) (IsBetween b)) (IsBetween whole)
differences_fit whole a b al au bl bu ea eb na nb = (
  rw (← ea, ← eb) (λ (h, k) z (x, y, m, n, e). (omega (arith, ints, h.0, m.0, n.1, e), omega (arith, ints, k.1, m.1, n.0, e))),
  λ s. (s _ (al, bu, lower_of a al au ea na, upper_of b bl bu eb nb, refl), s _ (au, bl, upper_of a al au ea na, lower_of b bl bu eb nb, refl)),
)

pub differences_with_fit : (whole a : ℤ × ℤ) (al au v : ℤ) → (al, au) ≡ a → ¬ (IsCrossed a)
    → (IsBetween whole (al -ℤ v) × IsBetween whole (au -ℤ v)) ↔ IsSubset (Differences (IsBetween a) (Only v)) (IsBetween whole)
differences_with_fit whole a al au v ea na = (
  rw (← ea) (λ (h, k) z (x, y, m, n, e). (omega (arith, ints, h.0, m.0, n, e), omega (arith, ints, k.1, m.1, n, e))),
  λ s. (s _ (al, v, lower_of a al au ea na, refl, refl), s _ (au, v, upper_of a al au ea na, refl, refl)),
)

corners_hold : (whole p q : ℤ × ℤ) → IsBetween whole (p.0 *ℤ q.0) → IsBetween whole (p.0 *ℤ q.1) → IsBetween whole (p.1 *ℤ q.0) → IsBetween whole (p.1 *ℤ q.1)
    → IsSubset (ExactProducts (IsBetween p) (IsBetween q)) (IsBetween whole)
corners_hold whole p q a b c d z (x, y, m, n, e) =
    let h = by_corners (IsBetween whole) p q a b c d in
    in_range_is_within whole (corner_hull p q) (h.0.0, h.1.1) z (subst (IsBetween (corner_hull p q)) e (product_within p q x y m n))

pub products_fit : (whole a b : ℤ × ℤ) (al au : ℤ) → (al, au) ≡ a → ¬ (IsCrossed a) → ¬ (IsCrossed b)
    → ((IsBetween whole (al *ℤ b.0) × IsBetween whole (al *ℤ b.1)) × (IsBetween whole (au *ℤ b.0) × IsBetween whole (au *ℤ b.1)))
    ↔ IsSubset (ExactProducts (IsBetween a) (IsBetween b)) (IsBetween whole)
products_fit whole a b al au ea na nb = (
  λ h. rw (← ea) (corners_hold whole (al, au) b h.0.0 h.0.1 h.1.0 h.1.1),
  λ s.
      let l = lower_of a al au ea na in
      let u = upper_of a al au ea na in
      let k = lower_of b b.0 b.1 refl nb in
      let j = upper_of b b.0 b.1 refl nb in
      ((s _ (al, b.0, l, k, refl), s _ (al, b.1, l, j, refl)), (s _ (au, b.0, u, k, refl), s _ (au, b.1, u, j, refl))),
)

pub products_with_fit : (whole a : ℤ × ℤ) (al au v : ℤ) → (al, au) ≡ a → ¬ (IsCrossed a)
    → (IsBetween whole (al *ℤ v) × IsBetween whole (au *ℤ v)) ↔ IsSubset (ExactProducts (IsBetween a) (Only v)) (IsBetween whole)
products_with_fit whole a al au v ea na = (
  λ h. rw (← ea) (λ z (x, y, m, n, e). corners_hold whole (al, au) (v, v) h.0 h.0 h.1 h.1 z (x, y, m, (omega (arith, ints, n), omega (arith, ints, n)), e)),
  λ s. (s _ (al, v, lower_of a al au ea na, refl, refl), s _ (au, v, upper_of a al au ea na, refl, refl)),
)
