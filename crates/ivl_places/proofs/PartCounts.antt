-- How many members of the first runs are in a set T, one run after the other.
use Rattle.std.proofs.Common.{◌≡◌, ◌≤◌, ◌<◌, ◌+◌, inl, inr, ⊎_elim, ℕ, ℤ, List, ◌∷◌, ◌++◌, [], length, take, take_all, get_or, arith, sym, subst}
use Rattle.std.proofs.lemmas.Int.{ints}
use Rattle.ivl_laws.specs.Bounds.{width_of}
use Rattle.ivl_laws.specs.Counts.{IsCountOf}
use Rattle.ivl_laws.specs.Sets.{Intersection, IsBetween, SameMembers, Union}
use Rattle.ivl_laws.specs.Runs.{Covers, IsMaximal, IsRunListIn}
use Rattle.ivl_laws.proofs.Counts.{IsCountOf-apart, IsCountOf-none, IsCountOf-same, count_is_monotone}
use Rattle.ivl_laws.proofs.Intervals.{IsCountOf-width_of}
use Rattle.ivl_laws.proofs.Merging.{covers-append, covers-append_left, covers-append_right}
use Rattle.ivl_laws.proofs.Places.{covers-take}
use Rattle.ivl_places.proofs.Ranks.{ahead, more_is, none_taken}

pub parts_none : (L : List (ℤ × ℤ)) (T : ℤ → Type 0) (n : ℕ) → n ≡ 0 → IsCountOf n (Intersection (Covers (take 0 L)) T)
parts_none L T n e = subst (λ (k : ℕ). IsCountOf k (Intersection (Covers (take 0 L)) T)) (sym e) (IsCountOf-none _ (λ z c. none_taken L z c.0))

-- S is what the next run has in T
pub parts_more : (L : List (ℤ × ℤ)) (i : ℕ) (d : ℤ × ℤ) → IsMaximal L → i < length L → d ≡ get_or L i d → (S T : ℤ → Type 0) (k n : ℕ) →
    SameMembers S (Intersection (IsBetween d) T) → IsCountOf k (Intersection (Covers (take i L)) T) → IsCountOf n S → IsCountOf (k + n) (Intersection (Covers (take (i + 1) L)) T)
parts_more L i d m h is S T k n s a b =
    let P : List (ℤ × ℤ) → Type 0 = λ M. IsCountOf (k + n) (Intersection (Covers M) T) in
    subst P (sym (more_is L i d m h is))
    (IsCountOf-same (Union (Intersection (Covers (take i L)) T) S) (Intersection (Covers (take i L ++ d ∷ [])) T) (k + n)
    (λ z. (
      ⊎_elim (λ t. (covers-append_left (take i L) (d ∷ []) z t.0, t.1)) (λ t. let w = (s z).0 t in (covers-append_right (take i L) (d ∷ []) z (inl w.0), w.1)),
      (λ (c, w). ⊎_elim (λ (t : Covers (take i L) z). inl (t, w)) (⊎_elim (λ (b : IsBetween d z). inr ((s z).1 (b, w))) (λ x. absurd x)) (covers-append (take i L) (d ∷ []) z c)),
    ))
    (IsCountOf-apart (Intersection (Covers (take i L)) T) S k n
    (λ z t u. let before_d = ahead L i d m h is z t.0 in let w = ((s z).0 u).0 in let low = w.0 in omega (arith, ints))
    a b))

pub parts_all : (L : List (ℤ × ℤ)) (i : ℕ) (T : ℤ → Type 0) (k : ℕ) → length L ≤ i → IsCountOf k (Intersection (Covers (take i L)) T) → IsCountOf k (Intersection (Covers L) T)
parts_all L i T k h a = subst (λ (M : List (ℤ × ℤ)). IsCountOf k (Intersection (Covers M) T)) (take_all i L h) a

-- so many numbers of the range can be counted
pub parts_fit : (whole : ℤ × ℤ) (L : List (ℤ × ℤ)) (i : ℕ) (T : ℤ → Type 0) (k greatest : ℕ) → IsRunListIn whole L → width_of whole ≤ greatest → IsCountOf k (Intersection (Covers (take i L)) T) → k ≤ greatest
parts_fit whole L i T k greatest r h a =
    let few = count_is_monotone (Intersection (Covers (take i L)) T) (IsBetween whole) k (width_of whole) (λ z c. r.within z (covers-take L i z c.0)) a (IsCountOf-width_of whole) in
    omega arith
