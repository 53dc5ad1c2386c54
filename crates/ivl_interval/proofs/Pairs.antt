-- Intervals as pairs of numbers.
use Rattle.std.proofs.Common.{◌≡◌, ℕ, ℤ, pos, ◌+ℤ◌, ◌-ℤ◌, ◌≤ℤ◌, ◌<ℤ◌, ◌↔◌, IsTrue, Bool, not, true, false, arith, refl, ◌∙◌, sym}
use Rattle.std.specs.Int.{int_max, int_min}
use Rattle.std.proofs.lemmas.Int.{ints, clamps, by_lt_z}
use Rattle.ivl_laws.specs.Sets.{Above, Below, HasSome, IsBetween, IsCrossed, IsHullOf, IsProperSubset, IsSubset, Only, SameMembers, Intersection, Union, Without}
use Rattle.ivl_laws.specs.Bounds.{width_of}
use Rattle.ivl_laws.specs.Counts.{IsCountOf}
use Rattle.ivl_laws.proofs.Intervals.{none_is_crossed, not_crossed, some_is_not_crossed, IsCountOf-width_of}
use Rattle.ivl_laws.proofs.Spans.{IsHullOf-same, hull_of_between, hull_of_open}
use Rattle.ivl_interval.specs.SameInterval.{same_interval}

-- ---- how many members

pub count_by_width : (p : ℤ × ℤ) (n : ℕ) → n ≡ width_of p → IsCountOf n (IsBetween p)
count_by_width p n e = rw e (IsCountOf-width_of p)

-- ---- one member

pub only_by_bounds : (p : ℤ × ℤ) → ((x : ℤ) × SameMembers (IsBetween p) (Only x)) ↔ (p.0 ≡ p.1)
only_by_bounds p = (
  λ (x, s). let m = (s x).1 refl in
      let o : p.0 ≤ℤ p.1 = omega (arith, ints, m.0, m.1) in
      (s p.0).0 (omega (arith, ints), o) ∙ sym ((s p.1).0 (o, omega (arith, ints))),
  λ e. (p.0, λ z. (λ m. omega (arith, ints, m.0, m.1, e), λ k. (omega (arith, ints, k), omega (arith, ints, k, e)))),
)

-- ---- equality

same_if_crossed : (l u m v : ℤ) → u <ℤ l → v <ℤ m → same_interval (l, u) (m, v) ≡ true
same_if_crossed l u m v h k = grind (arith, ints)

same_if_bounds : (l u m v : ℤ) → l ≤ℤ u → l ≡ m → u ≡ v → same_interval (l, u) (m, v) ≡ true
same_if_bounds l u m v h e f = grind (arith, ints)

same_only_bounds : (l u m v : ℤ) → l ≤ℤ u → same_interval (l, u) (m, v) ≡ true → (l ≡ m) × (u ≡ v)
same_only_bounds l u m v h t = grind (arith, ints)

same_only_crossed : (l u m v : ℤ) → u <ℤ l → same_interval (l, u) (m, v) ≡ true → v <ℤ m
same_only_crossed l u m v h t = grind (arith, ints)

crossed_if_same : (l u m v : ℤ) → u <ℤ l → SameMembers (IsBetween (l, u)) (IsBetween (m, v)) → v <ℤ m
crossed_if_same l u m v h s = by_lt_z v m (λ k. k) (λ k. let p = (s m).1 (omega (arith, ints), k) in absurd (omega (arith, ints, p.0, p.1)))

bounds_if_same : (l u m v : ℤ) → l ≤ℤ u → SameMembers (IsBetween (l, u)) (IsBetween (m, v)) → (l ≡ m) × (u ≡ v)
bounds_if_same l u m v h s =
    let p = (s l).0 (omega (arith, ints), h) in
    let q = (s u).0 (h, omega (arith, ints)) in
    let n : m ≤ℤ v = omega (arith, ints, p.0, p.1) in
    let i = (s m).1 (omega (arith, ints), n) in
    let j = (s v).1 (n, omega (arith, ints)) in
    (omega (arith, ints, p.0, i.0), omega (arith, ints, q.1, j.1))

members_of_same : (l u m v : ℤ) → same_interval (l, u) (m, v) ≡ true → SameMembers (IsBetween (l, u)) (IsBetween (m, v))
members_of_same l u m v t =
    by_lt_z u l
    (λ h. let k = same_only_crossed l u m v h t in λ z. (λ p. absurd (omega (arith, ints)), λ p. absurd (omega (arith, ints))))
    (λ h. let e = same_only_bounds l u m v h t in λ z. (λ p. (omega (arith, ints, e.0), omega (arith, ints, e.1)), λ p. (omega (arith, ints, e.0), omega (arith, ints, e.1))))

same_of_members : (l u m v : ℤ) → SameMembers (IsBetween (l, u)) (IsBetween (m, v)) → same_interval (l, u) (m, v) ≡ true
same_of_members l u m v s =
    by_lt_z u l (λ h. same_if_crossed l u m v h (crossed_if_same l u m v h s))
    (λ h. let e = bounds_if_same l u m v h s in same_if_bounds l u m v h e.0 e.1)

pub same_interval_members : (a b : ℤ × ℤ) (r : Bool) → r ≡ same_interval a b → IsTrue r ↔ SameMembers (IsBetween a) (IsBetween b)
same_interval_members a b r e =
    (λ t. members_of_same a.0 a.1 b.0 b.1 (sym e ∙ t), λ s. e ∙ same_of_members a.0 a.1 b.0 b.1 s)

same_test : (l u m v : ℤ) (r : Bool) → l ≤ℤ u → l ≡ m → (IsTrue r ↔ (u ≡ v)) → r ≡ same_interval (l, u) (m, v)
same_test l u m v true o e h = sym (same_if_bounds l u m v o e (h.0 refl))
same_test l u m v false o e h = grind (arith, ints)

pub same_by_bounds : (a b : ℤ × ℤ) (al au bl bu : ℤ) (r : Bool) → (al, au) ≡ a → (bl, bu) ≡ b → ¬ IsCrossed a
    → al ≡ bl → (IsTrue r ↔ (au ≡ bu)) → r ≡ same_interval a b
same_by_bounds a b al au bl bu r ea eb n el er =
    rw (← ea, ← eb) (same_test al au bl bu r (by_lt_z au al (λ k. absurd (rw (← ea) at n k)) (λ k. k)) el er)

pub same_by_crossed : (a b : ℤ × ℤ) (r : Bool) → IsCrossed a → (IsTrue r ↔ IsCrossed b) → r ≡ same_interval a b
same_by_crossed a b true h e = sym (same_if_crossed a.0 a.1 b.0 b.1 h (e.0 refl))
same_by_crossed a b false h e = grind (arith, ints)

unlike_lower : (l u m v : ℤ) (t : Bool) → l ≤ℤ u → t ≡ false → (IsTrue t ↔ (l ≡ m)) → t ≡ same_interval (l, u) (m, v)
unlike_lower l u m v true o f e = let k : ◌≡◌ {A = Bool} true false = f in absurd (cc)
unlike_lower l u m v false o f e = grind (arith, ints)

pub same_by_lower : (a b : ℤ × ℤ) (al au bl bu : ℤ) (t : Bool) → (al, au) ≡ a → (bl, bu) ≡ b → ¬ IsCrossed a
    → t ≡ false → (IsTrue t ↔ (al ≡ bl)) → t ≡ same_interval a b
same_by_lower a b al au bl bu t ea eb n f e =
    rw (← ea, ← eb) (unlike_lower al au bl bu t (by_lt_z au al (λ k. absurd (rw (← ea) at n k)) (λ k. k)) f e)

-- ---- the common members

pub common_pair : (a b : ℤ × ℤ) (al au bl bu l u : ℤ) → (al, au) ≡ a → (bl, bu) ≡ b
    → l ≡ int_max al bl → u ≡ int_min au bu → SameMembers (IsBetween (l, u)) (Intersection (IsBetween a) (IsBetween b))
common_pair a b al au bl bu l u ea eb el eu =
    rw (← ea, ← eb, el, eu) (λ z. (
      λ p. ((omega (arith, ints, clamps), omega (arith, ints, clamps)), (omega (arith, ints, clamps), omega (arith, ints, clamps))),
      λ p. (omega (arith, ints, clamps), omega (arith, ints, clamps)),
    ))

-- ---- hulls

pub hull_of_pairs : (a b : ℤ × ℤ) (al au bl bu l u : ℤ) → (al, au) ≡ a → (bl, bu) ≡ b → ¬ IsCrossed a → ¬ IsCrossed b
    → l ≡ int_min al bl → u ≡ int_max au bu → IsHullOf (l, u) (Union (IsBetween a) (IsBetween b))
hull_of_pairs a b al au bl bu l u ea eb na nb el eu =
    let e : l ≡ int_min a.0 b.0 = rw (← ea, ← eb) el in
    let f : u ≡ int_max a.1 b.1 = rw (← ea, ← eb) eu in
    rw (e, f) (hull_of_open a b (not_crossed a na) (not_crossed b nb))

-- ---- a test and what it tells

pub some_of_same : (S : ℤ → Type 0) (p : ℤ × ℤ) (r : Bool) → SameMembers (IsBetween p) S → (IsTrue r ↔ IsCrossed p) → IsTrue (not r) ↔ HasSome S
some_of_same S p true s e = (λ h. let k : ◌≡◌ {A = Bool} false true = h in absurd (cc), λ h. let m = (s h.0).1 h.1 in absurd ((none_is_crossed p).1 (e.0 refl) h.0 m))
some_of_same S p false s e = (
  λ h. by_lt_z p.1 p.0 (λ k. absurd (let f = e.1 k in cc)) (λ k. (p.0, (s p.0).0 (omega (arith, ints), k))),
  λ h. refl,
)

-- ---- a test that is false

pub not_that : {P : Type 0} (r : Bool) → (IsTrue r ↔ P) → r ≡ false → ¬ P
not_that r e f h = let t = e.1 h in let u : ◌≡◌ {A = Bool} true false = sym t ∙ f in cc

pub not_below : (a b : ℤ) (r : Bool) → (IsTrue r ↔ (a <ℤ b)) → r ≡ false → b ≤ℤ a
not_below a b r e f = by_lt_z a b (λ k. absurd (not_that r e f k)) (λ k. k)

-- ---- cuts at a value

pub above_none : (p r : ℤ × ℤ) (v : ℤ) → IsCrossed r → p.1 ≤ℤ v → SameMembers (IsBetween r) (Above v (IsBetween p))
above_none p r v c h z = ((λ b. absurd ((none_is_crossed r).1 c z b)), (λ (b, k). absurd (omega (arith, ints, b.1, k, h))))

pub above_rest : (p r : ℤ × ℤ) (v : ℤ) → p.0 ≤ℤ v → r.0 ≡ (v +ℤ pos 1) → r.1 ≡ p.1 → SameMembers (IsBetween r) (Above v (IsBetween p))
above_rest p r v h e f z = (
  λ b. ((omega (arith, ints, b.0, e, h), omega (arith, ints, b.1, f)), omega (arith, ints, b.0, e)),
  λ (b, k). (omega (arith, ints, k, e), omega (arith, ints, b.1, f)),
)

pub below_none : (p r : ℤ × ℤ) (v : ℤ) → IsCrossed r → v ≤ℤ p.0 → SameMembers (IsBetween r) (Below v (IsBetween p))
below_none p r v c h z = ((λ b. absurd ((none_is_crossed r).1 c z b)), (λ (b, k). absurd (omega (arith, ints, b.0, k, h))))

pub below_rest : (p r : ℤ × ℤ) (v : ℤ) → v ≤ℤ p.1 → r.0 ≡ p.0 → r.1 ≡ (v -ℤ pos 1) → SameMembers (IsBetween r) (Below v (IsBetween p))
below_rest p r v h e f z = (
  λ b. ((omega (arith, ints, b.0, e), omega (arith, ints, b.1, f, h)), omega (arith, ints, b.1, f)),
  λ (b, k). (omega (arith, ints, b.0, e), omega (arith, ints, k, f)),
)

pub common_with_value : (p r : ℤ × ℤ) (pl pu v l u : ℤ) → (pl, pu) ≡ p → r ≡ (l, u)
    → l ≡ int_max pl v → u ≡ int_min pu v → SameMembers (IsBetween r) (Intersection (IsBetween p) (Only v))
common_with_value p r pl pu v l u ep er el eu =
    rw (← ep, er, el, eu) (λ z. (
      λ m. ((omega (arith, ints, clamps), omega (arith, ints, clamps)), omega (arith, ints, clamps)),
      λ m. (omega (arith, ints, clamps), omega (arith, ints, clamps)),
    ))

-- ---- an interval without one value

hull_of_same : (S : ℤ → Type 0) (r : ℤ × ℤ) → SameMembers (IsBetween r) S → IsHullOf r S
hull_of_same S r s = IsHullOf-same (IsBetween r) S r s (hull_of_between r)

pub without_lower : (p r : ℤ × ℤ) (v : ℤ) → v ≡ p.0 → SameMembers (IsBetween r) (Above v (IsBetween p)) → IsHullOf r (Without (IsBetween p) (Only v))
without_lower p r v e s = hull_of_same (Without (IsBetween p) (Only v)) r (λ z. (
  λ b. let (m, k) = (s z).0 b in (m, λ f. omega (arith, ints, k, f)),
  λ (m, n). (s z).1 (m, by_lt_z v z (λ k. k) (λ k. absurd (n (omega (arith, ints, k, m.0, e))))),
))

pub without_upper : (p r : ℤ × ℤ) (v : ℤ) → v ≡ p.1 → SameMembers (IsBetween r) (Below v (IsBetween p)) → IsHullOf r (Without (IsBetween p) (Only v))
without_upper p r v e s = hull_of_same (Without (IsBetween p) (Only v)) r (λ z. (
  λ b. let (m, k) = (s z).0 b in (m, λ f. omega (arith, ints, k, f)),
  λ (m, n). (s z).1 (m, by_lt_z z v (λ k. k) (λ k. absurd (n (omega (arith, ints, k, m.1, e))))),
))

pub without_inner : (p : ℤ × ℤ) (v : ℤ) → ¬ (v ≡ p.0) → ¬ (v ≡ p.1) → IsHullOf p (Without (IsBetween p) (Only v))
without_inner p v l u = record {
  holds = λ z m. m.0;
  ends = λ o. (((omega (arith, ints), o), λ e. l (sym e)), ((o, omega (arith, ints)), λ e. u (sym e)));
}

-- ---- inclusion

pub subset_by_upper : (a b : ℤ × ℤ) (r : Bool) → a.0 ≤ℤ a.1 → b.0 ≤ℤ a.0 → (IsTrue r ↔ (a.1 ≤ℤ b.1)) → IsTrue r ↔ IsSubset (IsBetween a) (IsBetween b)
subset_by_upper a b r o l e = (
  λ t z m. (omega (arith, ints, l, m.0), omega (arith, ints, e.0 t, m.1)),
  λ s. e.1 (s a.1 (o, omega (arith, ints))).1,
)

pub subset_by_lower : (a b : ℤ × ℤ) (r : Bool) → a.0 ≤ℤ a.1 → r ≡ false → (IsTrue r ↔ (b.0 ≤ℤ a.0)) → IsTrue r ↔ IsSubset (IsBetween a) (IsBetween b)
subset_by_lower a b r o f e = (
  λ t. absurd (let k : ◌≡◌ {A = Bool} true false = sym t ∙ f in cc),
  λ s. e.1 (s a.0 (omega (arith, ints), o)).0,
)

pub proper_by_same : (S T : ℤ → Type 0) (r : Bool) → IsSubset S T → (IsTrue r ↔ SameMembers S T) → IsTrue (not r) ↔ IsProperSubset S T
proper_by_same S T true i e = (λ h. let k : ◌≡◌ {A = Bool} false true = h in absurd (cc), λ p. absurd (p.1 (e.0 refl)))
proper_by_same S T false i e = (λ _. (i, λ s. let k = e.1 s in absurd (cc)), λ _. refl)

pub proper_by_test : (a b : ℤ × ℤ) (r : Bool) → IsSubset (IsBetween a) (IsBetween b) → r ≡ not (same_interval a b) → IsTrue r ↔ IsProperSubset (IsBetween a) (IsBetween b)
proper_by_test a b r i e = rw e (proper_by_same (IsBetween a) (IsBetween b) (same_interval a b) i (same_interval_members a b _ refl))

-- where both ends of one interval are in another, nothing of it is outside
pub nothing_is_left : (p q r : ℤ × ℤ) → IsBetween q p.0 → IsBetween q p.1 → IsCrossed r → IsHullOf r (Without (IsBetween p) (IsBetween q))
nothing_is_left p q r low high crossed = record {
  holds = λ z w. let from = low.0 in let up_to = high.1 in let above = w.0.0 in let below = w.0.1 in
      absurd (w.1 (omega (arith, ints), omega (arith, ints)));
  ends = λ h. let some = (some_is_not_crossed r).1 h in absurd ((none_is_crossed r).1 crossed some.0 some.1);
}
