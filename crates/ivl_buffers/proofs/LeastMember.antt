-- The least member of a set from a number on, and the lowest members in a row.
use Rattle.std.proofs.Common.{◌≡◌, ◌⊎◌, inl, inr, ℕ, zero, suc, ◌+◌, ◌<◌, ◌≤◌, ℤ, ◌≤ℤ◌, ◌<ℤ◌, List, [], ◌∷◌, length, get_or, map, take, take_all, sym, subst, arith, ⊎_elim}
use Rattle.std.proofs.lemmas.Int.{ints}
use Rattle.std.specs.Prelude.{Option, Some, None, MatchOption}
use Rattle.ivl_laws.specs.Sets.{IsBetween, IsSubset, SameMembers, Union}
use Rattle.ivl_laws.specs.Runs.{Covers}
use Rattle.ivl_places.specs.FirstFit.{FitsAt, IsFirstFit}
use Rattle.ivl_buffers.specs.Lookup.{IsFitIn, IsNextIn}

-- ---- the lesser of two

pub first_is_less : (x y v : ℤ) (S T : ℤ → Type 0) → x ≤ℤ y → IsNextIn v S (Some x) → IsNextIn v T (Some y) → IsNextIn v (Union S T) (Some x)
first_is_less x y v S T h s t = (
  (inl s.0.0, s.0.1),
  λ z u. ⊎_elim (λ m. s.1 z (m, u.1)) (λ m. let r = t.1 z (m, u.1) in omega (arith, ints, h, r)) u.0,
)

pub second_is_less : (x y v : ℤ) (S T : ℤ → Type 0) → y ≤ℤ x → IsNextIn v S (Some x) → IsNextIn v T (Some y) → IsNextIn v (Union S T) (Some y)
second_is_less x y v S T h s t = (
  (inr t.0.0, t.0.1),
  λ z u. ⊎_elim (λ m. let r = s.1 z (m, u.1) in omega (arith, ints, h, r)) (λ m. t.1 z (m, u.1)) u.0,
)

pub first_alone : (x v : ℤ) (S T : ℤ → Type 0) → IsNextIn v S (Some x) → IsNextIn v T None → IsNextIn v (Union S T) (Some x)
first_alone x v S T s n = (
  (inl s.0.0, s.0.1),
  λ z u. ⊎_elim (λ m. s.1 z (m, u.1)) (λ m. absurd (n z (m, u.1))) u.0,
)

pub second_alone : (o : Option ℤ) (v : ℤ) (S T : ℤ → Type 0) → IsNextIn v S None → IsNextIn v T o → IsNextIn v (Union S T) o
second_alone None v S T n t = λ z u. ⊎_elim (λ m. n z (m, u.1)) (λ m. t z (m, u.1)) u.0
second_alone (Some y) v S T n t = (
  (inr t.0.0, t.0.1),
  λ z u. ⊎_elim (λ m. absurd (n z (m, u.1))) (λ m. t.1 z (m, u.1)) u.0,
)

-- ---- one pair

pub least_is : (p : ℤ × ℤ) (v x : ℤ) → v ≤ℤ x → p.0 ≤ℤ x → (x ≡ v) ⊎ (x ≡ p.0) → x ≤ℤ p.1 → IsNextIn v (IsBetween p) (Some x)
least_is p v x h k e l = (((k, l), h), λ z u. ⊎_elim (λ f. let a = u.1 in omega (arith, ints, f, a)) (λ f. let a = u.0.0 in omega (arith, ints, f, a)) e)

pub none_is : (p : ℤ × ℤ) (v x : ℤ) → (x ≡ v) ⊎ (x ≡ p.0) → p.1 <ℤ x → IsNextIn v (IsBetween p) None
none_is p v x e l = λ z u. ⊎_elim (λ f. absurd (let a = u.1 in let b = u.0.1 in omega (arith, ints, f, a, b, l))) (λ f. absurd (let a = u.0.0 in let b = u.0.1 in omega (arith, ints, f, a, b, l))) e

-- ---- the pairs so far, and one more

more_covers : {X : Type 0} (pair : X → ℤ × ℤ) (L : List X) (k : ℕ) (d : X) → k < length L → d ≡ get_or L k d →
    IsSubset (Union (Covers (map pair (take k L))) (IsBetween (pair d))) (Covers (map pair (take (suc k) L)))
more_covers pair [] k d h is z c = absurd (omega arith)
more_covers pair (p ∷ L) zero d h is z (inl c) = absurd c
more_covers pair (p ∷ L) zero d h is z (inr b) = let P : _ → Type 0 = λ q. IsBetween (pair q) z in inl (subst P is b)
more_covers pair (p ∷ L) (suc k) d h is z (inl (inl b)) = inl b
more_covers pair (p ∷ L) (suc k) d h is z (inl (inr c)) = inr (more_covers pair L k d (omega arith) is z (inl c))
more_covers pair (p ∷ L) (suc k) d h is z (inr b) = inr (more_covers pair L k d (omega arith) is z (inr b))

covers_more : {X : Type 0} (pair : X → ℤ × ℤ) (L : List X) (k : ℕ) (d : X) → k < length L → d ≡ get_or L k d →
    IsSubset (Covers (map pair (take (suc k) L))) (Union (Covers (map pair (take k L))) (IsBetween (pair d)))
covers_more pair [] k d h is z c = absurd (omega arith)
covers_more pair (p ∷ L) zero d h is z (inl b) = let P : _ → Type 0 = λ q. IsBetween (pair q) z in inr (subst P (sym is) b)
covers_more pair (p ∷ L) zero d h is z (inr c) = absurd c
covers_more pair (p ∷ L) (suc k) d h is z (inl b) = inl (inl b)
covers_more pair (p ∷ L) (suc k) d h is z (inr c) = ⊎_elim (λ a. inl (inr a)) (λ b. inr b) (covers_more pair L k d (omega arith) is z c)

pub next_same : (v : ℤ) (S T : ℤ → Type 0) (o : Option ℤ) → SameMembers S T → IsNextIn v S o → IsNextIn v T o
next_same v S T None h n = λ z u. n z ((h z).1 u.0, u.1)
next_same v S T (Some x) h l = (((h x).0 l.0.0, l.0.1), λ z u. l.1 z ((h z).1 u.0, u.1))

pub next_more : {X : Type 0} (pair : X → ℤ × ℤ) (L : List X) (k : ℕ) (d : X) (v : ℤ) (o : Option ℤ) → k < length L → d ≡ get_or L k d →
    IsNextIn v (Union (Covers (map pair (take k L))) (IsBetween (pair d))) o → IsNextIn v (Covers (map pair (take (k + 1) L))) o
next_more pair L k d v o h is n =
    let more : suc k ≡ k + 1 = omega arith in
    let P : ℕ → Type 0 = λ m. IsNextIn v (Covers (map pair (take m L))) o in
    subst P more (next_same v (Union (Covers (map pair (take k L))) (IsBetween (pair d))) (Covers (map pair (take (suc k) L))) o
    (λ z. (more_covers pair L k d h is z, covers_more pair L k d h is z)) n)

pub next_all : {X : Type 0} (pair : X → ℤ × ℤ) (L : List X) (k : ℕ) (v : ℤ) (o : Option ℤ) → length L ≤ k → IsNextIn v (Covers (map pair (take k L))) o → IsNextIn v (Covers (map pair L)) o
next_all pair L k v o h n =
    let P : _ → Type 0 = λ M. IsNextIn v (Covers (map pair M)) o in
    subst P (take_all k L h) n

-- ---- members in a row

pub fit_same : (n : ℕ) (S T : ℤ → Type 0) (o : Option (ℤ × ℤ)) → SameMembers S T → IsFitIn n S o → IsFitIn n T o
fit_same n S T None h f = λ v u i. f v u (λ z b. (h z).1 (i z b))
fit_same n S T (Some p) h f = (
  f.0,
  record {
    count = f.1.count;
    members = λ z b. (h z).0 (f.1.members z b);
    lowest = λ v i. f.1.lowest v (λ z b. (h z).1 (i z b));
  },
)

-- what a set of the same members answers
pub fits_of : (n : ℕ) (L : List (ℤ × ℤ)) (T : ℤ → Type 0) (o : Option (ℤ × ℤ)) → SameMembers (Covers L) T → 0 < n →
    MatchOption o ((v : ℤ) → ¬ (FitsAt n (Covers L) v)) (IsFirstFit n (Covers L)) → IsFitIn n T o
fits_of n L T None h u f = fit_same n (Covers L) T None h (λ v _. f v)
fits_of n L T (Some p) h u f = fit_same n (Covers L) T (Some p) h (u, f)

pub fit_is_open : (n : ℕ) (S : ℤ → Type 0) (p : ℤ × ℤ) → (0 < n) × IsFirstFit n S p → p.0 ≤ℤ p.1
fit_is_open n S p f = let c = f.1.count in let h = f.0 in omega (arith, ints, c, h)
