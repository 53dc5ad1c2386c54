-- Hulls: the least interval that holds a set has the numbers from one member to another. The meet of intervals.
use Rattle.std.proofs.Common.{◌≡◌, ◌⊎◌, ◌↔◌, inl, inr, ⊎_elim, ℤ, ◌≤ℤ◌, subst, arith}
use Rattle.std.proofs.lemmas.Int.{ints, clamps, by_lt_z}
use Rattle.std.specs.Int.{int_min, int_max}
use lib.Signed.{≤ℤ_refl}
use Rattle.ivl_laws.specs.Sets.{IsBetween, IsCrossed, IsSubset, SameMembers, HasNone, HasSome, Union, Intersection, IsHullOf}
use Rattle.ivl_laws.specs.Arithmetic.{Span}
use Rattle.ivl_laws.proofs.Runs.{≤ℤ_antisymm, ≤ℤ_trans, lower_end, upper_end, pair_same}
use Rattle.ivl_laws.proofs.Intervals.{none_is_crossed, is_crossed}
use Rattle.ivl_laws.proofs.Merging.{overlap_between}
use Rattle.ivl_laws.proofs.SetLaws.{same_members_sym, same_members_trans, union_comm, union_assoc, union_idem, union-same_left}

module _ (S : ℤ → Type 0) where
  -- the hull of a set holds the numbers between two members
  pub hull_is_span : (p : ℤ × ℤ) → IsHullOf p S ↔ SameMembers (IsBetween p) (Span S)
  hull_is_span p = (there, back)
    where
      there : IsHullOf p S → SameMembers (IsBetween p) (Span S)
      there k z = (
        (λ b. let ends = k.ends (≤ℤ_trans p.0 z p.1 b.0 b.1) in (p.0, p.1, ends.0, ends.1, b.0, b.1)),
        (λ (x, y, s, t, low, high). (≤ℤ_trans p.0 x z (k.holds x s).0 low, ≤ℤ_trans z y p.1 high (k.holds y t).1)),
      )

      ends_of : SameMembers (IsBetween p) (Span S) → p.0 ≤ℤ p.1 → S p.0 × S p.1
      ends_of k o =
          let (x, y, s, t, low, high) = (k p.0).0 (lower_end p o) in
          let (x', y', s', t', low', high') = (k p.1).0 (upper_end p o) in
          let in_x = (k x).1 (x, x, s, s, ≤ℤ_refl x, ≤ℤ_refl x) in
          let in_y = (k y').1 (y', y', t', t', ≤ℤ_refl y', ≤ℤ_refl y') in
          (subst S (≤ℤ_antisymm x p.0 low in_x.0) s, subst S (≤ℤ_antisymm y' p.1 in_y.1 high') t')

      back : SameMembers (IsBetween p) (Span S) → IsHullOf p S
      back k = record { holds = λ z s. (k z).1 (z, z, s, s, ≤ℤ_refl z, ≤ℤ_refl z); ends = ends_of k }

  -- a hull is the least interval that holds the set
  pub hull_is_least : (p q : ℤ × ℤ) → IsHullOf p S → IsSubset S (IsBetween q) → IsSubset (IsBetween p) (IsBetween q)
  hull_is_least p q h f z b =
      let ends = h.ends (≤ℤ_trans p.0 z p.1 b.0 b.1) in
      (≤ℤ_trans q.0 p.0 z (f p.0 ends.0).0 b.0, ≤ℤ_trans z p.1 q.1 b.1 (f p.1 ends.1).1)

  -- a set has one hull
  pub hull_is_unique : (p q : ℤ × ℤ) → IsHullOf p S → IsHullOf q S → SameMembers (IsBetween p) (IsBetween q)
  hull_is_unique p q h k z = (hull_is_least p q h k.holds z, hull_is_least q p k h.holds z)

  -- the hull of a set with a member is one pair
  pub hull_is_one_pair : (p q : ℤ × ℤ) → HasSome S → IsHullOf p S → IsHullOf q S → p ≡ q
  hull_is_one_pair p q (z, s) h k =
      let (a, b) = h.holds z s in
      let (c, d) = k.holds z s in
      let open_p : p.0 ≤ℤ p.1 = ≤ℤ_trans p.0 z p.1 a b in
      let open_q : q.0 ≤ℤ q.1 = ≤ℤ_trans q.0 z q.1 c d in
      let (e, f) = h.ends open_p in
      let (i, j) = k.ends open_q in
      pair_same p q (≤ℤ_antisymm p.0 q.0 (h.holds q.0 i).0 (k.holds p.0 e).0) (≤ℤ_antisymm p.1 q.1 (k.holds p.1 f).1 (h.holds q.1 j).1)

  -- the hulls of a set with no member are the crossed pairs
  pub hull_of_none : (p : ℤ × ℤ) → HasNone S → IsHullOf p S ↔ IsCrossed p
  hull_of_none p n = (
    (λ h. is_crossed p (λ o. n p.0 (h.ends o).0)),
    (λ c. record { holds = λ z s. absurd (n z s); ends = λ o. absurd ((none_is_crossed p).1 c p.0 (lower_end p o)) }),
  )

pub IsHullOf-same : (S T : ℤ → Type 0) (p : ℤ × ℤ) → SameMembers S T → IsHullOf p S → IsHullOf p T
IsHullOf-same S T p e h = record { holds = λ z t. h.holds z ((e z).1 t); ends = λ o. ((e p.0).0 (h.ends o).0, (e p.1).0 (h.ends o).1) }

-- an interval is its own hull
pub hull_of_between : (p : ℤ × ℤ) → IsHullOf p (IsBetween p)
hull_of_between p = record { holds = λ z b. b; ends = λ o. (lower_end p o, upper_end p o) }

-- ---- the hull of two intervals

pub hull_of_crossed_left : (p q : ℤ × ℤ) → IsCrossed p → IsHullOf q (Union (IsBetween p) (IsBetween q))
hull_of_crossed_left p q c = record {
  holds = λ z. ⊎_elim (λ b. absurd ((none_is_crossed p).1 c z b)) (λ b. b);
  ends = λ o. (inr (lower_end q o), inr (upper_end q o));
}

pub hull_of_crossed_right : (p q : ℤ × ℤ) → IsCrossed q → IsHullOf p (Union (IsBetween p) (IsBetween q))
hull_of_crossed_right p q c = record {
  holds = λ z. ⊎_elim (λ b. b) (λ b. absurd ((none_is_crossed q).1 c z b));
  ends = λ o. (inl (lower_end p o), inl (upper_end p o));
}

pub hull_of_open : (p q : ℤ × ℤ) → p.0 ≤ℤ p.1 → q.0 ≤ℤ q.1 → IsHullOf (int_min p.0 q.0, int_max p.1 q.1) (Union (IsBetween p) (IsBetween q))
hull_of_open p q o o' = record {
  holds = λ z. ⊎_elim (λ b. let low = b.0 in let high = b.1 in (omega (arith, ints, clamps), omega (arith, ints, clamps))) (λ b. let low = b.0 in let high = b.1 in (omega (arith, ints, clamps), omega (arith, ints, clamps)));
  ends = λ _. (
    by_lt_z q.0 p.0 (λ l. inr (omega (arith, ints, clamps), omega (arith, ints, clamps))) (λ l. inl (omega (arith, ints, clamps), omega (arith, ints, clamps))),
    by_lt_z p.1 q.1 (λ l. inr (omega (arith, ints, clamps), omega (arith, ints, clamps))) (λ l. inl (omega (arith, ints, clamps), omega (arith, ints, clamps))),
  );
}

-- two intervals have a hull
pub hull_of_two : (p q : ℤ × ℤ) → (r : ℤ × ℤ) × IsHullOf r (Union (IsBetween p) (IsBetween q))
hull_of_two p q = by_lt_z p.1 p.0
    (λ c. (q, hull_of_crossed_left p q c))
    (λ o. by_lt_z q.1 q.0 (λ c. (p, hull_of_crossed_right p q c)) (λ o'. ((int_min p.0 q.0, int_max p.1 q.1), hull_of_open p q o o')))

-- two intervals have an interval in common, which may be crossed
pub join_of_two : (p q : ℤ × ℤ) → (r : ℤ × ℤ) × SameMembers (IsBetween r) (Intersection (IsBetween p) (IsBetween q))
join_of_two p q = ((int_max p.0 q.0, int_min p.1 q.1), overlap_between p q)

-- ---- spans of unions
module _ (S T : ℤ → Type 0) where
  pub span_comm : SameMembers (Span (Union S T)) (Span (Union T S))
  span_comm z = (
    (λ (x, y, s, t, low, high). (x, y, (union_comm S T x).0 s, (union_comm S T y).0 t, low, high)),
    (λ (x, y, s, t, low, high). (x, y, (union_comm S T x).1 s, (union_comm S T y).1 t, low, high)),
  )

  -- the span of a union with a span is the span of the union
  pub span-union_left : SameMembers (Span (Union (Span S) T)) (Span (Union S T))
  span-union_left z = ((λ (x, y, s, t, low, high). by x y low high (bound x s) (bound y t)), (λ (x, y, s, t, low, high). (x, y, wide x s, wide y t, low, high)))
    where
      wide : (x : ℤ) → S x ⊎ T x → Span S x ⊎ T x
      wide x (inl s) = inl (x, x, s, s, ≤ℤ_refl x, ≤ℤ_refl x)
      wide x (inr t) = inr t

      bound : (x : ℤ) → Span S x ⊎ T x → Span (Union S T) x
      bound x (inl (a, b, s, t, low, high)) = (a, b, inl s, inl t, low, high)
      bound x (inr t) = (x, x, inr t, inr t, ≤ℤ_refl x, ≤ℤ_refl x)

      by : (x y : ℤ) → x ≤ℤ z → z ≤ℤ y → Span (Union S T) x → Span (Union S T) y → Span (Union S T) z
      by x y low high (a, b, s, t, l, h) (a', b', s', t', l', h') = (a, b', s, t', ≤ℤ_trans a x z l low, ≤ℤ_trans z y b' high h')

pub span-same : (S T : ℤ → Type 0) → SameMembers S T → SameMembers (Span S) (Span T)
span-same S T h z = (
  (λ (x, y, s, t, low, high). (x, y, (h x).0 s, (h y).0 t, low, high)),
  (λ (x, y, s, t, low, high). (x, y, (h x).1 s, (h y).1 t, low, high)),
)

pub span_assoc : (S T U : ℤ → Type 0) → SameMembers (Span (Union (Span (Union S T)) U)) (Span (Union S (Span (Union T U))))
span_assoc S T U =
    same_members_trans (Span (Union (Span (Union S T)) U)) (Span (Union (Union S T) U)) (Span (Union S (Span (Union T U)))) (span-union_left (Union S T) U)
    (same_members_trans (Span (Union (Union S T) U)) (Span (Union (Union T U) S)) (Span (Union S (Span (Union T U))))
    (span-same (Union (Union S T) U) (Union (Union T U) S) (same_members_trans (Union (Union S T) U) (Union S (Union T U)) (Union (Union T U) S) (union_assoc S T U) (union_comm S (Union T U))))
    (same_members_trans (Span (Union (Union T U) S)) (Span (Union (Span (Union T U)) S)) (Span (Union S (Span (Union T U))))
    (same_members_sym (Span (Union (Span (Union T U)) S)) (Span (Union (Union T U) S)) (span-union_left (Union T U) S))
    (span_comm (Span (Union T U)) S)))

-- the span of an interval is the interval
pub span-between : (p : ℤ × ℤ) → SameMembers (Span (IsBetween p)) (IsBetween p)
span-between p z = (
  (λ (x, y, (a, b), (c, d), low, high). (≤ℤ_trans p.0 x z a low, ≤ℤ_trans z y p.1 high d)),
  (λ b. (z, z, b, b, ≤ℤ_refl z, ≤ℤ_refl z)),
)

-- ---- the meet of intervals, which is the hull of their union

pub meet_comm : (p q r : ℤ × ℤ) → IsHullOf r (Union (IsBetween p) (IsBetween q)) → IsHullOf r (Union (IsBetween q) (IsBetween p))
meet_comm p q r = IsHullOf-same (Union (IsBetween p) (IsBetween q)) (Union (IsBetween q) (IsBetween p)) r (union_comm (IsBetween p) (IsBetween q))

-- the hull of a hull and one more interval is the span of all three
pub span_of_three : (p q s pq l : ℤ × ℤ) → IsHullOf pq (Union (IsBetween p) (IsBetween q)) → IsHullOf l (Union (IsBetween pq) (IsBetween s)) →
    SameMembers (IsBetween l) (Span (Union (Span (Union (IsBetween p) (IsBetween q))) (IsBetween s)))
span_of_three p q s pq l h k =
    (hull_is_span (Union (Span (Union (IsBetween p) (IsBetween q))) (IsBetween s)) l).0
    (IsHullOf-same (Union (IsBetween pq) (IsBetween s)) (Union (Span (Union (IsBetween p) (IsBetween q))) (IsBetween s)) l
    (union-same_left (IsBetween pq) (Span (Union (IsBetween p) (IsBetween q))) (IsBetween s) ((hull_is_span (Union (IsBetween p) (IsBetween q)) pq).0 h)) k)

pub meet_assoc : (p q s pq qs l r : ℤ × ℤ) →
    IsHullOf pq (Union (IsBetween p) (IsBetween q)) → IsHullOf l (Union (IsBetween pq) (IsBetween s)) →
    IsHullOf qs (Union (IsBetween q) (IsBetween s)) → IsHullOf r (Union (IsBetween p) (IsBetween qs)) → SameMembers (IsBetween l) (IsBetween r)
meet_assoc p q s pq qs l r h k h' k' =
    let P = IsBetween p in
    let Q = IsBetween q in
    let S = IsBetween s in
    let left : SameMembers (IsBetween l) (Span (Union (Span (Union P Q)) S)) = span_of_three p q s pq l h k in
    let right : SameMembers (IsBetween r) (Span (Union (Span (Union Q S)) P)) = span_of_three q s p qs r h' (meet_comm p qs r k') in
    let middle : SameMembers (Span (Union (Span (Union P Q)) S)) (Span (Union P (Span (Union Q S)))) = span_assoc P Q S in
    let turn : SameMembers (Span (Union P (Span (Union Q S)))) (Span (Union (Span (Union Q S)) P)) = span_comm P (Span (Union Q S)) in
    λ z. (
      (λ b. (right z).1 ((turn z).0 ((middle z).0 ((left z).0 b)))),
      (λ b. (left z).1 ((middle z).1 ((turn z).1 ((right z).0 b)))),
    )

pub meet_idem : (p r : ℤ × ℤ) → IsHullOf r (Union (IsBetween p) (IsBetween p)) → SameMembers (IsBetween r) (IsBetween p)
meet_idem p r h = hull_is_unique (Union (IsBetween p) (IsBetween p)) r p h
    (IsHullOf-same (IsBetween p) (Union (IsBetween p) (IsBetween p)) p (λ z. ((union_idem (IsBetween p) z).1, (union_idem (IsBetween p) z).0)) (hull_of_between p))

-- an interval meets the hull of itself and another in itself
pub join-meet : (p q m : ℤ × ℤ) → IsHullOf m (Union (IsBetween p) (IsBetween q)) → SameMembers (Intersection (IsBetween p) (IsBetween m)) (IsBetween p)
join-meet p q m h z = ((λ (b, c). b), (λ b. (b, h.holds z (inl b))))

-- the hull of an interval and a part of it is the interval
pub meet-join : (p q j r : ℤ × ℤ) → SameMembers (IsBetween j) (Intersection (IsBetween p) (IsBetween q)) → IsHullOf r (Union (IsBetween p) (IsBetween j)) →
    SameMembers (IsBetween r) (IsBetween p)
meet-join p q j r e h = hull_is_unique (Union (IsBetween p) (IsBetween j)) r p h record {
  holds = λ z. ⊎_elim (λ b. b) (λ b. ((e z).0 b).0);
  ends = λ o. (inl (lower_end p o), inl (upper_end p o));
}
