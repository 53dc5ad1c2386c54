-- Intervals by the numbers of their stored ends: when the ends are in range, and what tests of them tell.
use Rattle.std.proofs.Common.{◌≡◌, ℤ, pos, ◌+ℤ◌, ◌-ℤ◌, ◌≤ℤ◌, ◌<ℤ◌, ◌↔◌, IsTrue, Bool, true, false, arith, refl, sym, ◌∙◌}
use Rattle.std.proofs.Math.Bool.{true≢false}
use Rattle.std.specs.Int.{int_max, int_min}
use Rattle.std.proofs.lemmas.Int.{ints, clamps, by_lt_z}
use Rattle.ivl_laws.specs.Sets.{Above, AtLeast, AtMost, Below, HasNone, HasSome, IsBetween, IsCrossed, IsHullOf, IsInRange, IsSubset, Only, SameMembers, Without}
use Rattle.ivl_laws.proofs.Intervals.{none_is_crossed, not_crossed, some_is_not_crossed}
use Rattle.ivl_laws.proofs.Spans.{hull_of_none}
use Rattle.ivl_interval.proofs.Arithmetic.{ordered}
use Rattle.ivl_interval.proofs.Pairs.{above_rest, below_rest, nothing_is_left, only_by_bounds, subset_by_lower, subset_by_upper}

-- ---- the ends of results

pub max_at_least : (low a b l : ℤ) → low ≤ℤ a → l ≡ int_max a b → low ≤ℤ l
max_at_least low a b l h e = omega (arith, ints, clamps)

pub min_at_most : (high a b u : ℤ) → a ≤ℤ high → u ≡ int_min a b → u ≤ℤ high
min_at_most high a b u h e = omega (arith, ints, clamps)

pub min_at_least : (low a b l : ℤ) → low ≤ℤ a → low ≤ℤ b → l ≡ int_min a b → low ≤ℤ l
min_at_least low a b l h k e = omega (arith, ints, clamps)

pub max_at_most : (high a b u : ℤ) → a ≤ℤ high → b ≤ℤ high → u ≡ int_max a b → u ≤ℤ high
max_at_most high a b u h k e = omega (arith, ints, clamps)

pub at_least_by_max : (p r : ℤ × ℤ) (pl pu v l : ℤ) → (pl, pu) ≡ p → r ≡ (l, pu) → l ≡ int_max pl v → SameMembers (IsBetween r) (AtLeast v (IsBetween p))
at_least_by_max p r pl pu v l ep er el =
    rw (← ep, er, el) (λ z. (
      λ m. ((omega (arith, ints, clamps), m.1), omega (arith, ints, clamps)),
      λ m. (omega (arith, ints, clamps), m.0.1),
    ))

pub at_most_by_min : (p r : ℤ × ℤ) (pl pu v u : ℤ) → (pl, pu) ≡ p → r ≡ (pl, u) → u ≡ int_min pu v → SameMembers (IsBetween r) (AtMost v (IsBetween p))
at_most_by_min p r pl pu v u ep er eu =
    rw (← ep, er, eu) (λ z. (
      λ m. ((m.0, omega (arith, ints, clamps)), omega (arith, ints, clamps)),
      λ m. (m.0.0, omega (arith, ints, clamps)),
    ))

-- ---- cuts at a value

pub above_all : (p : ℤ × ℤ) (l u v : ℤ) → (l, u) ≡ p → v <ℤ l → SameMembers (IsBetween (l, u)) (Above v (IsBetween p))
above_all p l u v e h = rw (← e) (λ z. (λ m. (m, omega (arith, ints, m.0)), λ m. m.0))

pub below_all : (p : ℤ × ℤ) (l u v : ℤ) → (l, u) ≡ p → u <ℤ v → SameMembers (IsBetween (l, u)) (Below v (IsBetween p))
below_all p l u v e h = rw (← e) (λ z. (λ m. (m, omega (arith, ints, m.1)), λ m. m.0))

pub above_by_ends : (p r : ℤ × ℤ) (l u v s : ℤ) → (l, u) ≡ p → r ≡ (s, u) → l ≤ℤ v → s ≡ (v +ℤ pos 1) → SameMembers (IsBetween r) (Above v (IsBetween p))
above_by_ends p r l u v s ep er h es = rw (← ep, er) (above_rest (l, u) (s, u) v h es refl)

pub below_by_ends : (p r : ℤ × ℤ) (l u v s : ℤ) → (l, u) ≡ p → r ≡ (l, s) → v ≤ℤ u → s ≡ (v -ℤ pos 1) → SameMembers (IsBetween r) (Below v (IsBetween p))
below_by_ends p r l u v s ep er h es = rw (← ep, er) (below_rest (l, u) (l, s) v h refl es)

pub next_at_least : (low l v s : ℤ) → low ≤ℤ l → l ≤ℤ v → s ≡ (v +ℤ pos 1) → low ≤ℤ s
next_at_least low l v s h k e = omega (arith, ints)

pub previous_at_most : (high u v s : ℤ) → u ≤ℤ high → v ≤ℤ u → s ≡ (v -ℤ pos 1) → s ≤ℤ high
previous_at_most high u v s h k e = omega (arith, ints)

pub next_in_range : (whole : ℤ × ℤ) (l u v : ℤ) → IsInRange whole (l, u) → l ≤ℤ v → v <ℤ u → (whole.0 ≤ℤ v) × (v <ℤ whole.1)
next_in_range whole l u v r h k = (omega (arith, ints, r.0), omega (arith, ints, r.1))

pub previous_in_range : (whole : ℤ × ℤ) (l u v : ℤ) → IsInRange whole (l, u) → l <ℤ v → v ≤ℤ u → (whole.0 <ℤ v) × (v ≤ℤ whole.1)
previous_in_range whole l u v r h k = (omega (arith, ints, r.0), omega (arith, ints, r.1))

pub crossed_stays : (p : ℤ × ℤ) (T : ℤ → Type 0) → IsCrossed p → IsHullOf p (Without (IsBetween p) T)
crossed_stays p T c = (hull_of_none (Without (IsBetween p) T) p (λ z m. (none_is_crossed p).1 c z m.0)).1 c

-- ---- what another interval leaves, by which ends of the first it holds

pub lower_inside : (p q : ℤ × ℤ) (pl pu ql qu : ℤ) → (pl, pu) ≡ p → (ql, qu) ≡ q → p.0 ≤ℤ p.1 → IsBetween q pl → ¬ (IsBetween q pu)
    → (ql ≤ℤ pl) × (pl ≤ℤ qu) × (qu <ℤ pu)
lower_inside p q pl pu ql qu ep eq o m n =
    let in_order = rw (← ep) at o in
    let low = rw (← eq) at m in
    let high = rw (← eq) at n in
    (low.0, low.1, by_lt_z qu pu (λ k. k) (λ k. absurd (high (omega (arith, ints, low.0, in_order), k))))

pub upper_inside : (p q : ℤ × ℤ) (pl pu ql qu : ℤ) → (pl, pu) ≡ p → (ql, qu) ≡ q → p.0 ≤ℤ p.1 → ¬ (IsBetween q pl) → IsBetween q pu
    → (pl <ℤ ql) × (ql ≤ℤ pu) × (pu ≤ℤ qu)
upper_inside p q pl pu ql qu ep eq o m n =
    let in_order = rw (← ep) at o in
    let low = rw (← eq) at m in
    let high = rw (← eq) at n in
    (by_lt_z pl ql (λ k. k) (λ k. absurd (low (k, omega (arith, ints, high.1, in_order)))), high.0, high.1)

upper_part : (pl pu ql qu : ℤ) → ql ≤ℤ pl → pl ≤ℤ qu → qu <ℤ pu → IsHullOf (qu +ℤ pos 1, pu) (Without (IsBetween (pl, pu)) (IsBetween (ql, qu)))
upper_part pl pu ql qu l m u = record {
  holds = λ z w. (by_lt_z qu z (λ k. omega (arith, ints, k)) (λ k. absurd (w.1 (omega (arith, ints, l, w.0.0), k))), w.0.1);
  ends = λ o. (((omega (arith, ints, m), o), λ b. omega (arith, ints, b.1)), ((omega (arith, ints, m, u), omega (arith, ints)), λ b. omega (arith, ints, b.1, u)));
}

lower_part : (pl pu ql qu : ℤ) → pl <ℤ ql → ql ≤ℤ pu → pu ≤ℤ qu → IsHullOf (pl, ql -ℤ pos 1) (Without (IsBetween (pl, pu)) (IsBetween (ql, qu)))
lower_part pl pu ql qu l m u = record {
  holds = λ z w. (w.0.0, by_lt_z z ql (λ k. omega (arith, ints, k)) (λ k. absurd (w.1 (k, omega (arith, ints, u, w.0.1)))));
  ends = λ o. (((omega (arith, ints), omega (arith, ints, l, m)), λ b. omega (arith, ints, b.0, l)), ((o, omega (arith, ints, m)), λ b. omega (arith, ints, b.0)));
}

pub upper_is_left : (p q r : ℤ × ℤ) (pl pu ql qu s : ℤ) → (pl, pu) ≡ p → (ql, qu) ≡ q → r ≡ (s, pu) → s ≡ (qu +ℤ pos 1)
    → (ql ≤ℤ pl) × (pl ≤ℤ qu) × (qu <ℤ pu) → IsHullOf r (Without (IsBetween p) (IsBetween q))
upper_is_left p q r pl pu ql qu s ep eq er es h = rw (← ep, ← eq, er, es) (upper_part pl pu ql qu h.0 h.1 h.2)

pub lower_is_left : (p q r : ℤ × ℤ) (pl pu ql qu s : ℤ) → (pl, pu) ≡ p → (ql, qu) ≡ q → r ≡ (pl, s) → s ≡ (ql -ℤ pos 1)
    → (pl <ℤ ql) × (ql ≤ℤ pu) × (pu ≤ℤ qu) → IsHullOf r (Without (IsBetween p) (IsBetween q))
lower_is_left p q r pl pu ql qu s ep eq er es h = rw (← ep, ← eq, er, es) (lower_part pl pu ql qu h.0 h.1 h.2)

pub both_inside : (p q r : ℤ × ℤ) (pl pu : ℤ) → (pl, pu) ≡ p → IsBetween q pl → IsBetween q pu → IsCrossed r → IsHullOf r (Without (IsBetween p) (IsBetween q))
both_inside p q r pl pu ep m n c = rw (← ep) (nothing_is_left (pl, pu) q r m n c)

pub both_outside : (p q : ℤ × ℤ) (pl pu : ℤ) → (pl, pu) ≡ p → ¬ (IsBetween q pl) → ¬ (IsBetween q pu) → IsHullOf (pl, pu) (Without (IsBetween p) (IsBetween q))
both_outside p q pl pu ep m n = rw (← ep) record {
  holds = λ z w. w.0;
  ends = λ o. (((omega (arith, ints), o), m), ((o, omega (arith, ints)), n));
}

-- ---- one test

pub crossed_by_test : (p : ℤ × ℤ) (l u : ℤ) (r : Bool) → (l, u) ≡ p → (IsTrue r ↔ (u <ℤ l)) → IsTrue r ↔ IsCrossed p
crossed_by_test p l u r e h = rw (← e) h

pub empty_by_test : (p : ℤ × ℤ) (r : Bool) → (IsTrue r ↔ IsCrossed p) → IsTrue r ↔ HasNone (IsBetween p)
empty_by_test p r k = let n = none_is_crossed p in ((λ t. n.1 (k.0 t)), (λ h. k.1 (n.0 h)))

pub filled_by_test : (p : ℤ × ℤ) (r : Bool) → (IsTrue r ↔ IsCrossed p) → ¬ (IsTrue r) → HasSome (IsBetween p)
filled_by_test p r k n = (some_is_not_crossed p).1 (not_crossed p (λ h. n (k.1 h)))

pub equal_by_test : (p : ℤ × ℤ) (l u : ℤ) (r : Bool) → (l, u) ≡ p → (IsTrue r ↔ (l ≡ u)) → IsTrue r ↔ (p.0 ≡ p.1)
equal_by_test p l u r e h = rw (← e) h

pub only_by_test : (p : ℤ × ℤ) (r : Bool) → (IsTrue r ↔ (p.0 ≡ p.1)) → IsTrue r ↔ ((x : ℤ) × SameMembers (IsBetween p) (Only x))
only_by_test p r k = let n = only_by_bounds p in ((λ t. n.1 (k.0 t)), (λ h. k.1 (n.0 h)))

-- ---- two tests, the lower end first

both : {P Q : Type 0} (t r : Bool) → t ≡ true → (IsTrue t ↔ P) → (IsTrue r ↔ Q) → IsTrue r ↔ (P × Q)
both t r is p q = (λ h. (p.0 is, q.0 h), λ m. q.1 m.1)

not_first : {P Q : Type 0} (t : Bool) → t ≡ false → (IsTrue t ↔ P) → IsTrue t ↔ (P × Q)
not_first t is p = (λ h. absurd (true≢false (sym h ∙ is)), λ m. p.1 m.0)

pub between_by_upper : (p : ℤ × ℤ) (l u v : ℤ) (t r : Bool) → (l, u) ≡ p → t ≡ true → (IsTrue t ↔ (l ≤ℤ v)) → (IsTrue r ↔ (v ≤ℤ u)) → IsTrue r ↔ IsBetween p v
between_by_upper p l u v t r e is lower upper = rw (← e) (both t r is lower upper)

pub between_by_lower : (p : ℤ × ℤ) (l u v : ℤ) (t : Bool) → (l, u) ≡ p → t ≡ false → (IsTrue t ↔ (l ≤ℤ v)) → IsTrue t ↔ IsBetween p v
between_by_lower p l u v t e is lower = rw (← e) (not_first t is lower)

pub ends_by_second : (P : ℤ → Type 0) (p : ℤ × ℤ) (l u : ℤ) (t r : Bool) → (l, u) ≡ p → t ≡ true → (IsTrue t ↔ P l) → (IsTrue r ↔ P u) → IsTrue r ↔ (P p.0 × P p.1)
ends_by_second P p l u t r e is lower upper = rw (← e) (both t r is lower upper)

pub ends_by_first : (P : ℤ → Type 0) (p : ℤ × ℤ) (l u : ℤ) (t : Bool) → (l, u) ≡ p → t ≡ false → (IsTrue t ↔ P l) → IsTrue t ↔ (P p.0 × P p.1)
ends_by_first P p l u t e is lower = rw (← e) (not_first t is lower)

pub in_range_by_upper : (whole : ℤ × ℤ) (low high l u : ℤ) (t r : Bool) → low ≡ whole.0 → high ≡ whole.1 → t ≡ true
    → (IsTrue t ↔ (low ≤ℤ l)) → (IsTrue r ↔ (u ≤ℤ high)) → IsTrue r ↔ IsInRange whole (l, u)
in_range_by_upper whole low high l u t r el eh is lower upper = rw (← el, ← eh) (both t r is lower upper)

pub in_range_by_lower : (whole : ℤ × ℤ) (low l u : ℤ) (t : Bool) → low ≡ whole.0 → t ≡ false → (IsTrue t ↔ (low ≤ℤ l)) → IsTrue t ↔ IsInRange whole (l, u)
in_range_by_lower whole low l u t el is lower = rw (← el) (not_first t is lower)

pub subset_by_uppers : (a b : ℤ × ℤ) (al au bl bu : ℤ) (t r : Bool) → (al, au) ≡ a → (bl, bu) ≡ b → ¬ (IsCrossed a) → t ≡ true
    → (IsTrue t ↔ (bl ≤ℤ al)) → (IsTrue r ↔ (au ≤ℤ bu)) → IsTrue r ↔ IsSubset (IsBetween a) (IsBetween b)
subset_by_uppers a b al au bl bu t r ea eb n is lower upper =
    rw (← ea, ← eb) (subset_by_upper (al, au) (bl, bu) r (ordered a al au ea n) (lower.0 is) upper)

pub subset_by_lowers : (a b : ℤ × ℤ) (al au bl bu : ℤ) (t : Bool) → (al, au) ≡ a → (bl, bu) ≡ b → ¬ (IsCrossed a) → t ≡ false
    → (IsTrue t ↔ (bl ≤ℤ al)) → IsTrue t ↔ IsSubset (IsBetween a) (IsBetween b)
subset_by_lowers a b al au bl bu t ea eb n is lower =
    rw (← ea, ← eb) (subset_by_lower (al, au) (bl, bu) t (ordered a al au ea n) is lower)
