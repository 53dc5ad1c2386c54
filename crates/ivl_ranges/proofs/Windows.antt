-- The indexes that are safe lie in a window.
use Rattle.std.proofs.Common.{◌↔◌, ℕ, ℤ, pos, ◌+ℤ◌, ◌≤ℤ◌, ◌<ℤ◌, List, refl, subst, arith}
use Rattle.std.proofs.lemmas.Int.{ints}
use Rattle.ivl_laws.specs.Runs.{IsRunsOf}
use Rattle.ivl_laws.specs.Sets.{Intersection, IsBetween, IsHullOf, IsSubset, SameMembers, Sums}
use Rattle.ivl_ranges.specs.Indexes.{IsIndexOf, SafeIn}

pub window_is : (K : ℤ → Type 0) (n : ℕ) (l u x : ℤ) (p q : ℤ × ℤ) → K l → ((z : ℤ) → K z → l ≤ℤ z) → K u → ((z : ℤ) → K z → z ≤ℤ u)
    → SameMembers (IsBetween p) (IsBetween q) → (q.0 ≤ℤ x ↔ pos 0 ≤ℤ (x +ℤ l)) → (x ≤ℤ q.1 ↔ (x +ℤ u) <ℤ pos n) → IsBetween p x ↔ ((y : ℤ) → K y → IsIndexOf n (x +ℤ y))
window_is K n l u x p q least lowest most highest same low high = (
  (λ b y k. let i = (same x).0 b in (omega (arith, ints, low.0 i.0, lowest y k), omega (arith, ints, high.0 i.1, highest y k))),
  (λ h. (same x).1 (low.1 (h l least).0, high.1 (h u most).1)),
)

pub safe_is : (S K : ℤ → Type 0) (n : ℕ) (w : ℤ × ℤ) (L : List (ℤ × ℤ)) → ((x : ℤ) → S x → IsBetween w x ↔ ((y : ℤ) → K y → IsIndexOf n (x +ℤ y)))
    → IsRunsOf L (Intersection S (IsBetween w)) → IsRunsOf L (SafeIn S K n)
safe_is S K n w L a r = record {
  maximal = r.maximal;
  members = λ x. ((λ m. let k = (r.members x).0 m in (k.0, (a x k.0).0 k.1)), (λ k. (r.members x).1 (k.0, (a x k.0).1 k.1)));
}

-- a set lies in a window exactly when its hull does
pub safe_by_hull : (S K : ℤ → Type 0) (n : ℕ) (w h : ℤ × ℤ) → IsHullOf h S → ((x : ℤ) → S x → IsBetween w x ↔ ((y : ℤ) → K y → IsIndexOf n (x +ℤ y))) → IsSubset (IsBetween h) (IsBetween w) ↔ IsSubset (Sums S K) (IsIndexOf n)
safe_by_hull S K n w h hull a = (
  (λ b z s. subst (λ (t : ℤ). IsIndexOf n t) s.4 ((a s.0 s.2).0 (b s.0 (hull.holds s.0 s.2)) s.1 s.3)),
  (λ all x b.
      let ends = hull.ends (omega (arith, ints, b.0, b.1)) in
      let at_least : IsBetween w h.0 = (a h.0 ends.0).1 (λ y k. all (h.0 +ℤ y) (h.0, y, ends.0, k, refl)) in
      let at_most : IsBetween w h.1 = (a h.1 ends.1).1 (λ y k. all (h.1 +ℤ y) (h.1, y, ends.1, k, refl)) in
      (omega (arith, ints, b.0, at_least.0), omega (arith, ints, b.1, at_most.1))),
)
