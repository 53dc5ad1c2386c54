-- Where a number stands in a list whose pairs are in order.
use Rattle.std.proofs.Common.{◌≡◌, ◌↔◌, ◌⊎◌, inl, inr, ⊎_elim, ap, ℕ, zero, suc, ◌<◌, ◌≤◌, ℤ, ◌≤ℤ◌, ◌<ℤ◌, Bool, false, IsTrue, List, [], ◌∷◌, length, get_or, map, take, drop, refl, sym, subst, arith}
use Rattle.std.proofs.lemmas.Int.{ints, by_lt_z}
use Rattle.std.specs.Prelude.{Option, Some, None, MatchOption, IfSome, IsSomeAnd, slice_get, option_map}
use Rattle.std.proofs.lemmas.Option.{slice_get_past, slice_get_read}
use lib.Signed.{≤ℤ_refl}
use Rattle.ivl_laws.specs.Sets.{AtLeast, HasNone, IsBetween, IsSubset}
use Rattle.ivl_laws.specs.Runs.{Covers}
use Rattle.ivl_places.specs.Places.{EndBelow, EndsFrom}
use Rattle.ivl_buffers.specs.Lookup.{IsFirstFrom, IsNextIn, TellsAt}
use Rattle.ivl_buffers.specs.Lists.{IsInOrder}

-- no later pair ends below an earlier one, and no later member lies below its start
pub later_end : {X : Type 0} (pair : X → ℤ × ℤ) (p : ℤ × ℤ) (L : List X) (i : ℕ) (d : X) → i < length L → d ≡ get_or L i d → IsInOrder (p ∷ map pair L) → p.1 ≤ℤ (pair d).1
later_end pair p [] i d h is o = absurd (omega arith)
later_end pair p (q ∷ L) zero d h is o = let P : _ → Type 0 = λ r. p.1 ≤ℤ (pair r).1 in subst P (sym is) o.1.1
later_end pair p (q ∷ L) (suc i) d h is o = let k = later_end pair (pair q) L i d (omega arith) is o.2 in let f = o.1.1 in omega (arith, ints, k, f)

pub later_member : (p : ℤ × ℤ) (M : List (ℤ × ℤ)) (z : ℤ) → IsInOrder (p ∷ M) → Covers M z → p.0 ≤ℤ z
later_member p [] z o c = absurd c
later_member p (q ∷ M) z o (inl b) = let f = o.1.0 in let l = b.0 in omega (arith, ints, f, l)
later_member p (q ∷ M) z o (inr c) = let k = later_member q M z o.2 c in let f = o.1.0 in omega (arith, ints, k, f)

-- ---- what a look tells of the pairs on one side

pub below_to : {X : Type 0} (pair : X → ℤ × ℤ) (L : List X) (i : ℕ) (d : X) (v : ℤ) → i < length L → d ≡ get_or L i d → (pair d).1 <ℤ v → IsInOrder (map pair L) → EndBelow v (take (suc i) (map pair L))
below_to pair [] i d v h is b o = absurd (omega arith)
below_to pair (p ∷ L) zero d v h is b o = let P : _ → Type 0 = λ r. (pair r).1 <ℤ v in (subst P is b, tt)
below_to pair (p ∷ L) (suc i) d v h is b o = (
  let k = later_end pair (pair p) L i d (omega arith) is o in omega (arith, ints, k, b),
  below_to pair L i d v (omega arith) is b o.2,
)

-- ---- what the pair at a place tells

pub members_at : {X : Type 0} (pair : X → ℤ × ℤ) (L : List X) (i : ℕ) (o : Option X) → o ≡ slice_get L i → IfSome o (λ r. IsSubset (IsBetween (pair r)) (Covers (map pair L)))
members_at pair L i None e = tt
members_at pair [] i (Some r) e = absurd (cc)
members_at pair (p ∷ L) zero (Some r) e = λ z b. let same : r ≡ p = cc in let P : _ → Type 0 = λ q. IsBetween (pair q) z in inl (subst P same b)
members_at pair (p ∷ L) (suc i) (Some r) e = λ z b. inr (members_at pair L i (Some r) e z b)

first_more : (p : ℤ × ℤ) (M : List (ℤ × ℤ)) (v : ℤ) (q : ℤ × ℤ) → p.1 <ℤ v → IsFirstFrom v (Covers M) q → IsFirstFrom v (Covers (p ∷ M)) q
first_more p M v q b f = record {
  filled = f.filled;
  ends = f.ends;
  first = λ z u. ⊎_elim (λ i. absurd (let h = i.1 in let k = u.1 in omega (arith, ints, b, h, k))) (λ c. f.first z (c, u.1)) u.0;
}

none_more : (p : ℤ × ℤ) (M : List (ℤ × ℤ)) (v : ℤ) → p.1 <ℤ v → HasNone (AtLeast v (Covers M)) → HasNone (AtLeast v (Covers (p ∷ M)))
none_more p M v b n = λ z u. ⊎_elim (λ i. absurd (let h = i.1 in let k = u.1 in omega (arith, ints, b, h, k))) (λ c. n z (c, u.1)) u.0

pub first_at : {X : Type 0} (pair : X → ℤ × ℤ) (L : List X) (i : ℕ) (v : ℤ) (o : Option X) → o ≡ slice_get L i → EndBelow v (take i (map pair L)) → EndsFrom v (drop i (map pair L)) → IsInOrder (map pair L) →
    MatchOption o (HasNone (AtLeast v (Covers (map pair L)))) (λ r. IsFirstFrom v (Covers (map pair L)) (pair r))
first_at pair [] i v None e b a o = λ z u. u.0
first_at pair [] i v (Some r) e b a o = absurd (cc)
first_at pair (p ∷ L) zero v None e b a o = absurd (cc)
first_at pair (p ∷ L) zero v (Some r) e b a o =
    let same : r ≡ p = cc in
    let P : _ → Type 0 = λ q. IsFirstFrom v (Covers (map pair (p ∷ L))) (pair q) in
    subst P (sym same) (record {
      filled = o.0;
      ends = a;
      first = λ z u. ⊎_elim (λ i. i.0) (λ c. later_member (pair p) (map pair L) z o c) u.0;
    })
first_at pair (p ∷ L) (suc i) v None e b a o = none_more (pair p) (map pair L) v b.0 (first_at pair L i v None e b.1 a o.2)
first_at pair (p ∷ L) (suc i) v (Some r) e b a o = first_more (pair p) (map pair L) v (pair r) b.0 (first_at pair L i v (Some r) e b.1 a o.2)

-- ---- what the first pair that ends from a number on tells

pub first_has : (v : ℤ) (S : ℤ → Type 0) (p : ℤ × ℤ) (t : Bool) → IsFirstFrom v S p → IsSubset (IsBetween p) S → (IsTrue t ↔ IsBetween p v) → IsTrue t ↔ S v
first_has v S p t f h is = ((λ u. h v (is.0 u)), (λ s. is.1 (f.first v (s, ≤ℤ_refl v), f.ends)))

pub none_here : (v : ℤ) (S : ℤ → Type 0) → HasNone (AtLeast v S) → ¬ (S v)
none_here v S n s = n v (s, ≤ℤ_refl v)

-- ---- whether the pair at a place has the number

pub no_pair : {X : Type 0} (pair : X → ℤ × ℤ) (L : List X) (v : ℤ) (i : ℕ) → length L ≤ i → TellsAt pair v (slice_get L i) false
no_pair pair L v i h = subst (λ (o : Option _). TellsAt pair v o false) (sym (slice_get_past L i h)) refl

-- the pair before place k ends below v
abbrev pub IsPast : {X : Type 0} → (X → ℤ × ℤ) → ℤ → List X → ℕ → Type 0
IsPast pair v L zero = Unit {0}
IsPast pair v L (suc i) = IfSome (slice_get L i) (λ r. (pair r).1 <ℤ v)

-- it ends at v or above, and whether it starts at v or below is told
abbrev pub IsReached : {X : Type 0} → (X → ℤ × ℤ) → ℤ → Option X → Bool → Type 0
IsReached pair v o t = IsSomeAnd o (λ r. (v ≤ℤ (pair r).1) × (IsTrue t ↔ ((pair r).0 ≤ℤ v)))

-- such a pair stands at place k or right before it, or k is the end and none was met
abbrev pub IsSeen : {X : Type 0} → (X → ℤ × ℤ) → ℤ → List X → ℕ → Bool → Type 0
IsSeen pair v L k t = ((t ≡ false) × (length L ≤ k)) ⊎ ((i : ℕ) × (i ≤ k) × (k ≤ suc i) × IsReached pair v (slice_get L i) t)

pub past_next : {X : Type 0} (pair : X → ℤ × ℤ) (L : List X) (v : ℤ) (i : ℕ) (d : X) → i < length L → d ≡ get_or L i d → (pair d).1 <ℤ v → IsPast pair v L (suc i)
past_next pair L v i d h is b = subst (λ (o : Option _). IfSome o (λ r. (pair r).1 <ℤ v)) (sym (slice_get_read L (length L) i d refl h is)) b

pub reached : {X : Type 0} (pair : X → ℤ × ℤ) (L : List X) (v : ℤ) (i : ℕ) (d : X) (low : ℤ) (t : Bool) → i < length L → d ≡ get_or L i d → low ≡ (pair d).0 → (IsTrue t ↔ (low ≤ℤ v)) → v ≤ℤ (pair d).1 →
    IsReached pair v (slice_get L i) t
reached pair L v i d low t h is e le reaches =
    subst (λ (o : Option _). IsReached pair v o t) (sym (slice_get_read L (length L) i d refl h is)) (reaches, subst (λ (z : ℤ). IsTrue t ↔ (z ≤ℤ v)) e le)

not_both : {X : Type 0} (pair : X → ℤ × ℤ) (v : ℤ) (o : Option X) (t : Bool) → IsReached pair v o t → IfSome o (λ r. (pair r).1 <ℤ v) → ⊥
not_both pair v None t h b = h
not_both pair v (Some r) t h b = let reaches = h.0 in omega (arith, ints, reaches, b)

tells_reached : {X : Type 0} (pair : X → ℤ × ℤ) (v : ℤ) (o : Option X) (t : Bool) → IsReached pair v o t → TellsAt pair v o t
tells_reached pair v None t h = absurd h
tells_reached pair v (Some r) t h = ((λ u. (h.1.0 u, h.0)), (λ b. h.1.1 b.0))

ends_reached : {X : Type 0} (pair : X → ℤ × ℤ) (L : List X) (i : ℕ) (v : ℤ) (t : Bool) → IsReached pair v (slice_get L i) t → EndsFrom v (drop i (map pair L))
ends_reached pair [] i v t h = absurd h
ends_reached pair (p ∷ L) zero v t h = h.0
ends_reached pair (p ∷ L) (suc i) v t h = ends_reached pair L i v t h

ends_past : {X : Type 0} (pair : X → ℤ × ℤ) (L : List X) (k : ℕ) (v : ℤ) → length L ≤ k → EndsFrom v (drop k (map pair L))
ends_past pair [] zero v h = tt
ends_past pair [] (suc k) v h = tt
ends_past pair (p ∷ L) zero v h = absurd (omega (arith, h))
ends_past pair (p ∷ L) (suc k) v h = ends_past pair L k v (omega (arith, h))

pub place_found : {X : Type 0} (pair : X → ℤ × ℤ) (L : List X) (v : ℤ) (k : ℕ) (t : Bool) → IsPast pair v L k → IsSeen pair v L k t →
    TellsAt pair v (slice_get L k) t × EndsFrom v (drop k (map pair L))
place_found pair L v k t past (inl (e, h)) = (subst (λ (u : Bool). TellsAt pair v (slice_get L k) u) (sym e) (no_pair pair L v k h), ends_past pair L k v h)
place_found pair L v k t past (inr (i, l, m, h)) = ⊎_elim
    (λ (e : k ≡ i). let h' = subst (λ (j : ℕ). IsReached pair v (slice_get L j) t) (sym e) h in (tells_reached pair v (slice_get L k) t h', ends_reached pair L k v t h'))
    (λ (e : k ≡ suc i). absurd (not_both pair v (slice_get L i) t h (subst (λ (j : ℕ). IsPast pair v L j) e past))) (next_to i k l m)
  where
    next_to : (i k : ℕ) → i ≤ k → k ≤ suc i → (k ≡ i) ⊎ (k ≡ suc i)
    next_to zero zero l m = inl refl
    next_to zero (suc zero) l m = inr refl
    next_to zero (suc (suc k)) l m = absurd (omega (arith, m))
    next_to (suc i) zero l m = absurd (omega (arith, l))
    next_to (suc i) (suc k) l m = ⊎_elim (λ (e : k ≡ i). inl (ap suc e)) (λ (e : k ≡ suc i). inr (ap suc e)) (next_to i k (omega (arith, l)) (omega (arith, m)))

pub has_member : {X : Type 0} (pair : X → ℤ × ℤ) (L : List X) (i : ℕ) (v : ℤ) (t : Bool) → TellsAt pair v (slice_get L i) t → IsTrue t → Covers (map pair L) v
has_member pair L i v t = go (slice_get L i) refl
  where
    go : (o : Option _) → o ≡ slice_get L i → TellsAt pair v o t → IsTrue t → Covers (map pair L) v
    go None e f u = absurd (cc)
    go (Some r) e is u = members_at pair L i (Some r) e v (is.0 u)

pub has_first : {X : Type 0} (pair : X → ℤ × ℤ) (L : List X) (i : ℕ) (v : ℤ) (t : Bool) → TellsAt pair v (slice_get L i) t → EndBelow v (take i (map pair L)) → EndsFrom v (drop i (map pair L)) → IsInOrder (map pair L) →
    IsTrue t ↔ Covers (map pair L) v
has_first pair L i v t tells below from o = go (slice_get L i) refl tells
  where
    go : (u : Option _) → u ≡ slice_get L i → TellsAt pair v u t → IsTrue t ↔ Covers (map pair L) v
    go None e f = ((λ u. absurd (cc)), (λ s. absurd (none_here v _ (first_at pair L i v None e below from o) s)))
    go (Some r) e is = first_has v _ (pair r) t (first_at pair L i v (Some r) e below from o) (members_at pair L i (Some r) e) is

pub next_member : {K : Type 0} (value : K → ℤ) (v : ℤ) (S T : ℤ → Type 0) (o : Option K) → IsNextIn v S (option_map value o) → IsSubset S T → IfSome o (λ x. AtLeast v T (value x))
next_member value v S T None n h = tt
next_member value v S T (Some x) n h = (h (value x) n.0.0, n.0.1)

pub first_next : (v : ℤ) (S : ℤ → Type 0) (p : ℤ × ℤ) (o : Option ℤ) → IsFirstFrom v S p → IsSubset (IsBetween p) S → IsNextIn v (IsBetween p) o → IsNextIn v S o
first_next v S p None f h n = absurd (n p.1 ((f.filled, ≤ℤ_refl p.1), f.ends))
first_next v S p (Some x) f h n = (
  (h x n.0.0, n.0.1),
  λ z u. by_lt_z p.1 z (λ above. let high = n.0.0.1 in omega (arith, ints, above, high)) (λ within. n.1 z ((f.first z u, within), u.1)),
)
