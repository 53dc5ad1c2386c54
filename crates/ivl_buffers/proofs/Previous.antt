-- The greatest member up to a number, and the pair that has a number, in a list whose pairs are in order.
use Rattle.std.proofs.Common.{◌≡◌, ◌⊎◌, ⊎_elim, ap, ◌∙◌, ℕ, zero, suc, ◌<◌, ℤ, ◌≤ℤ◌, ◌<ℤ◌, Bool, false, IsTrue, List, [], ◌∷◌, length, get_or, map, take, drop, refl, sym, subst, arith}
use Rattle.std.proofs.lemmas.Int.{ints}
use Rattle.std.specs.Prelude.{Option, Some, None, MatchOption, IfSome, IsSomeAnd, slice_get, option_map}
use Rattle.std.proofs.lemmas.Option.{get_or_from_slice_get, slice_get-map, slice_get_read, slice_get_within}
use lib.Signed.{≤ℤ_refl}
use Rattle.ivl_laws.specs.Sets.{AtMost, HasNone, IsBetween, IsSubset}
use Rattle.ivl_laws.specs.Runs.{Covers, IsMaximal}
use Rattle.ivl_places.specs.Neighbours.{IsRunWith}
use Rattle.ivl_places.specs.Places.{EndBelow, EndsFrom}
use Rattle.ivl_places.proofs.Neighbours.{run_at_place}
use Rattle.ivl_buffers.specs.Beside.{IsPreviousIn}
use Rattle.ivl_buffers.specs.Lookup.{TellsAt}
use Rattle.ivl_buffers.specs.Lists.{IsInOrder}
use Rattle.ivl_buffers.proofs.InOrder.{has_first, has_member, later_end, later_member, members_at}

-- ---- the greatest number of one pair

pub greatest_is : (p : ℤ × ℤ) (v x : ℤ) → p.0 ≤ℤ x → x ≤ℤ v → x ≤ℤ p.1 → (v ≤ℤ x) ⊎ (p.1 ≤ℤ x) → IsPreviousIn v (IsBetween p) (Some x)
greatest_is p v x l h k e = (((l, k), h), λ z u. ⊎_elim (λ f. let a = u.1 in omega (arith, ints, f, a)) (λ f. let a = u.0.1 in omega (arith, ints, f, a)) e)

pub no_greatest_is : (p : ℤ × ℤ) (v x : ℤ) → (v ≤ℤ x) ⊎ (p.1 ≤ℤ x) → x <ℤ p.0 → IsPreviousIn v (IsBetween p) None
no_greatest_is p v x e l = λ z u. ⊎_elim (λ f. let a = u.1 in let b = u.0.0 in omega (arith, ints, f, a, b, l)) (λ f. let a = u.0.1 in let b = u.0.0 in omega (arith, ints, f, a, b, l)) e

pub here_is : (v : ℤ) (S : ℤ → Type 0) → S v → IsPreviousIn v S (Some v)
here_is v S s = ((s, ≤ℤ_refl v), λ z u. u.1)

-- ---- the last pair that starts at the number or below

pub none_to : {X : Type 0} (pair : X → ℤ × ℤ) (L : List X) (v : ℤ) (t : Bool) → t ≡ false → TellsAt pair v (slice_get L 0) t → EndsFrom v (drop 0 (map pair L)) → IsInOrder (map pair L) →
    HasNone (AtMost v (Covers (map pair L)))
none_to pair [] v t e f a o = λ z u. u.0
none_to pair (p ∷ L) v t e f a o = λ z u.
    let low : (pair p).0 ≤ℤ z = ⊎_elim (λ i. i.0) (λ c. later_member (pair p) (map pair L) z o c) u.0 in
    let high = u.1 in
    let told : IsTrue t = f.1 (omega (arith, ints, low, high), a) in
    absurd (cc)

-- it is not crossed and ends below v, and no member up to v is above it
pub record IsLastTo (v : ℤ) (S : ℤ → Type 0) (p : ℤ × ℤ) : Type 0 where
  pub filled : p.0 ≤ℤ p.1
  pub ends : p.1 <ℤ v
  pub last : (z : ℤ) → AtMost v S z → z ≤ℤ p.1

pub last_to : {X : Type 0} (pair : X → ℤ × ℤ) (L : List X) (k : ℕ) (v : ℤ) (t : Bool) (r : X) → t ≡ false → TellsAt pair v (slice_get L (suc k)) t → EndBelow v (take (suc k) (map pair L)) →
    EndsFrom v (drop (suc k) (map pair L)) → IsInOrder (map pair L) → slice_get L k ≡ Some r → IsLastTo v (Covers (map pair L)) (pair r)
last_to pair [] k v t r e f b a o h = absurd (cc)
last_to pair (p ∷ L) zero v t r e f b a o h =
    let same : p ≡ r = cc in
    subst (λ q. IsLastTo v (Covers (map pair (p ∷ L))) (pair q)) same (record {
      filled = o.0;
      ends = b.0;
      last = λ z u. ⊎_elim (λ i. i.1) (λ c. absurd (none_to pair L v t e f a o.2 z (c, u.1))) u.0;
    })
last_to pair (p ∷ L) (suc k) v t r e f b a o h =
    let n = last_to pair L k v t r e f b.1 a o.2 h in
    let more = later_end pair (pair p) L k r (slice_get_within L k r h) (sym (get_or_from_slice_get L k r r h)) o in
    record {
      filled = n.filled;
      ends = n.ends;
      last = λ z u. ⊎_elim (λ i. let high = i.1 in omega (arith, ints, more, high)) (λ c. n.last z (c, u.1)) u.0;
    }

pub last_previous : (v : ℤ) (S : ℤ → Type 0) (p : ℤ × ℤ) (o : Option ℤ) → IsLastTo v S p → IsSubset (IsBetween p) S → IsPreviousIn v (IsBetween p) o → IsPreviousIn v S o
last_previous v S p None l h n = absurd (n p.1 ((l.filled, ≤ℤ_refl p.1), (let e = l.ends in omega (arith, ints, e))))
last_previous v S p (Some x) l h n = (
  (h x n.0.0, n.0.1),
  λ z u. let a = l.last z u in let b = n.1 p.1 ((l.filled, ≤ℤ_refl p.1), (let e = l.ends in omega (arith, ints, e))) in omega (arith, ints, a, b),
)

pub previous_member : {K : Type 0} (value : K → ℤ) (v : ℤ) (S T : ℤ → Type 0) (o : Option K) → IsPreviousIn v S (option_map value o) → IsSubset S T → IfSome o (λ x. AtMost v T (value x))
previous_member value v S T None n h = tt
previous_member value v S T (Some x) n h = (h (value x) n.0.0, n.0.1)

-- ---- the pair that has the number

pub maximal_in_order : (L : List (ℤ × ℤ)) → IsMaximal L → IsInOrder L
maximal_in_order [] m = tt
maximal_in_order (p ∷ []) m = (m.0, tt, tt)
maximal_in_order (p ∷ q ∷ L) m = (m.0, (let a = m.0 in let b = m.1 in omega (arith, ints, a, b), let a = m.1 in let b = m.2.0 in omega (arith, ints, a, b)), maximal_in_order (q ∷ L) m.2)

module _ {X : Type 0} (pair : X → ℤ × ℤ) (L : List X) (k : ℕ) (v : ℤ) (t : Bool) (tells : TellsAt pair v (slice_get L k) t) where
  pub pair_has : (o : Option X) → o ≡ slice_get L k → IsTrue t → IfSome o (λ r. IsBetween (pair r) v × IsSubset (IsBetween (pair r)) (Covers (map pair L)))
  pair_has None e u = tt
  pair_has (Some r) e u = ((subst (λ (o : Option X). TellsAt pair v o t) (sym e) tells).0 u, members_at pair L k (Some r) e)

  pub pair_found : (o : Option X) → o ≡ slice_get L k → IsTrue t → MatchOption o (¬ (Covers (map pair L) v)) (λ r. Covers (map pair L) v)
  pair_found None e u = let none : t ≡ false = subst (λ (o : Option X). TellsAt pair v o t) (sym e) tells in absurd (cc)
  pair_found (Some r) e u = let (has, inside) = pair_has (Some r) e u in inside v has

  pub run_found : (o : Option X) → o ≡ slice_get L k → IsTrue t → IsMaximal (map pair L) → MatchOption o (¬ (Covers (map pair L) v)) (λ r. IsRunWith v (Covers (map pair L)) (pair r))
  run_found None e u m = let none : t ≡ false = subst (λ (o : Option X). TellsAt pair v o t) (sym e) tells in absurd (cc)
  run_found (Some r) e u m =
      let at : slice_get (map pair L) k ≡ Some (pair r) = slice_get-map pair L k ∙ ap (option_map pair) (sym e) in
      run_at_place (map pair L) k (pair r) v m at (subst (λ (o : Option (ℤ × ℤ)). IsSomeAnd o (λ q. IsBetween q v)) (sym at) (pair_has (Some r) e u).0)

  pub pair_missing : t ≡ false → EndBelow v (take k (map pair L)) → EndsFrom v (drop k (map pair L)) → IsInOrder (map pair L) → ¬ (Covers (map pair L) v)
  pair_missing e b a o c = let told : IsTrue t = (has_first pair L k v t tells b a o).1 c in absurd (cc)

-- ---- the greatest member up to the number, by the pair before the place

module _ {X : Type 0} (pair : X → ℤ × ℤ) (L : List X) (k : ℕ) (v : ℤ) (t : Bool) (tells : TellsAt pair v (slice_get L k) t) where
  pub previous_here : IsTrue t → IsPreviousIn v (Covers (map pair L)) (Some v)
  previous_here u = here_is v (Covers (map pair L)) (has_member pair L k v t tells u)

  pub no_previous : k ≡ 0 → t ≡ false → EndsFrom v (drop k (map pair L)) → IsInOrder (map pair L) → HasNone (AtMost v (Covers (map pair L)))
  no_previous e f a o =
      none_to pair L v t f (subst (λ (n : ℕ). TellsAt pair v (slice_get L n) t) e tells) (subst (λ (n : ℕ). EndsFrom v (drop n (map pair L))) e a) o

  module _ (d : X) (i : ℕ) (less : i < length L) (next : suc i ≡ k) (is : d ≡ get_or L i d) where
    at : slice_get L i ≡ Some d
    at = slice_get_read L (length L) i d refl less is

    pub previous_is_member : {K : Type 0} (value : K → ℤ) (o : Option K) → IsPreviousIn v (IsBetween (pair d)) (option_map value o) → IfSome o (λ x. AtMost v (Covers (map pair L)) (value x))
    previous_is_member value o n = previous_member value v (IsBetween (pair d)) (Covers (map pair L)) o n (members_at pair L i (Some d) (sym at))

    pub previous_is_greatest : (o : Option ℤ) → t ≡ false → EndBelow v (take k (map pair L)) → EndsFrom v (drop k (map pair L)) → IsInOrder (map pair L) → IsPreviousIn v (IsBetween (pair d)) o → IsPreviousIn v (Covers (map pair L)) o
    previous_is_greatest o f b a order n =
        let last = last_to pair L i v t d f (subst (λ (n : ℕ). TellsAt pair v (slice_get L n) t) (sym next) tells) (subst (λ (n : ℕ). EndBelow v (take n (map pair L))) (sym next) b)
        (subst (λ (n : ℕ). EndsFrom v (drop n (map pair L))) (sym next) a) order at in
        last_previous v (Covers (map pair L)) (pair d) o last (members_at pair L i (Some d) (sym at)) n
