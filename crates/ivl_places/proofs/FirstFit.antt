-- The first run that is long enough.
use Rattle.std.proofs.Common.{◌≡◌, ◌∙◌, ◌≤◌, ◌<◌, ◌+◌, inl, inr, ⊎_elim, ℕ, zero, suc, ℤ, pos, ◌+ℤ◌, ◌-ℤ◌, ◌≤ℤ◌, Bool, true, false, List, [], ◌∷◌, length, take, drop, get_or, Some, None, arith, ap, refl, sym, subst}
use Rattle.std.specs.Prelude.{Option, MatchOption, slice_get, IsSomeAnd}
use Rattle.std.specs.declared.cmp.Ordering.{Ordering}
use Rattle.std.specs.Ordering.{nat_cmp, partial_ge, is_some_and, is_ge}
use Rattle.std.proofs.lemmas.Bool.Decides.{nat_tests}
use Rattle.std.proofs.lemmas.Int.{ints}
use Rattle.std.proofs.lemmas.List.{drop_more}
use Rattle.ivl_laws.specs.Bounds.{OrdersByCount, width_of}
use Rattle.ivl_laws.specs.Sets.{AtLeast, IsBetween, IsInRange, IsSubset, InOneRun, SameMembers}
use Rattle.ivl_laws.specs.Runs.{Covers, IsMaximal, IsRunListIn}
use Rattle.ivl_laws.specs.Counts.{IsIn}
use Rattle.ivl_laws.proofs.Intervals.{width_of-filled}
use Rattle.ivl_laws.proofs.Places.{IsMaximal-drop, covers-drop, covers_at}
use Rattle.ivl_laws.proofs.Products.{one_run_is_one_pair, both_covered_by_one, one_covers}
use Rattle.ivl_laws.proofs.Ranges.{bounds_in_range_at}
use Rattle.ivl_laws.proofs.Runs.{covered_from}
use Rattle.ivl_places.specs.Neighbours.{IsGapAt}
use Rattle.ivl_places.specs.FirstFit.{FitsAt, IsFirstFit}
use Rattle.ivl_places.proofs.Finding.{place_is_less}
use Rattle.ivl_places.proofs.Windows.{IsSplitAt, above_all, below_all, covers_split, split_by_run}

-- the lowest n numbers in a row, or none where there are none
abbrev pub IsFitOf : ℕ → (ℤ → Type 0) → Option (ℤ × ℤ) → Type 0
IsFitOf n S o = MatchOption o ((v : ℤ) → ¬ (FitsAt n S v)) (IsFirstFit n S)

more_or_same : (a b : ℕ) (r : Bool) → r ≡ is_ge (nat_cmp a b) → r ≡ true → b ≤ a
more_or_same a b r e f = grind (arith, nat_tests)

fewer : (a b : ℕ) (r : Bool) → r ≡ is_ge (nat_cmp a b) → r ≡ false → a < b
fewer a b r e f = grind (arith, nat_tests)

module _ {N : Type 0} {size : N → ℕ} {eq : N → N → Bool} {partial : N → N → Option Ordering} {total : N → N → Ordering}
    (o : OrdersByCount size eq partial total) (x y : N) (r : Bool) (e : r ≡ partial_ge partial x y) where
  pub at_least_by_count : r ≡ true → size y ≤ size x
  at_least_by_count f = more_or_same (size x) (size y) r (e ∙ ap (is_some_and is_ge) (o.partial x y)) f

  pub below_by_count : r ≡ false → size x < size y
  below_by_count f = fewer (size x) (size y) r (e ∙ ap (is_some_and is_ge) (o.partial x y)) f

-- ---- the same members have the same room

fits_same : (n : ℕ) (S T : ℤ → Type 0) (v : ℤ) → IsSubset S T → FitsAt n S v → FitsAt n T v
fits_same n S T v h f z b = h z (f z b)

pub fit_of_same : (n : ℕ) (S T : ℤ → Type 0) (o : Option (ℤ × ℤ)) → ((v : ℤ) → FitsAt n T v → FitsAt n S v) → IsSubset S T → IsFitOf n S o → IsFitOf n T o
fit_of_same n S T None back h k = λ v f. k v (back v f)
fit_of_same n S T (Some run) back h k = record {
  count = k.count;
  members = λ z b. h z (k.members z b);
  lowest = λ v f. k.lowest v (back v f);
}

pub fit_of_members : (n : ℕ) (S T : ℤ → Type 0) (o : Option (ℤ × ℤ)) → SameMembers S T → IsFitOf n S o → IsFitOf n T o
fit_of_members n S T o s k = fit_of_same n S T o (λ v f. fits_same n T S v (λ z. (s z).1) f) (λ z. (s z).0) k

-- ---- run by run

-- n numbers in a row stand in one run
pub in_one_run : (n : ℕ) (L : List (ℤ × ℤ)) (v : ℤ) → 0 < n → IsMaximal L → FitsAt n (Covers L) v → (p : ℤ × ℤ) × IsIn L p × IsBetween p v × IsBetween p ((v +ℤ pos n) -ℤ pos 1)
in_one_run n L v h m f =
    let last : ℤ = (v +ℤ pos n) -ℤ pos 1 in
    let one : InOneRun (Covers L) v last = λ z. ⊎_elim (f z) (λ (b : IsBetween (last, v) z). let lo = b.0 in let hi = b.1 in f z (omega (arith, ints), omega (arith, ints))) in
    both_covered_by_one L v last (one_run_is_one_pair L v last m one)

pub head_fits : (n : ℕ) (p : ℤ × ℤ) (L : List (ℤ × ℤ)) (run : ℤ × ℤ) → 0 < n → IsMaximal (p ∷ L) → n ≤ width_of p → run ≡ (p.0, (p.0 +ℤ pos n) -ℤ pos 1) → IsFirstFit n (Covers (p ∷ L)) run
head_fits n p L run h m w e =
    let width = width_of-filled p m.0 in
    rw e (record {
      count = refl;
      members = λ z (b : IsBetween (p.0, (p.0 +ℤ pos n) -ℤ pos 1) z). let low = b.0 in let high = b.1 in inl (low, omega (arith, ints));
      lowest = λ v f. covered_from p L v m (f v (omega (arith, ints), omega (arith, ints)));
    })

past_head : (n : ℕ) (p : ℤ × ℤ) (L : List (ℤ × ℤ)) (v : ℤ) → 0 < n → IsMaximal (p ∷ L) → width_of p < n → FitsAt n (Covers (p ∷ L)) v → FitsAt n (Covers L) v
past_head n p L v h m w f z b =
    let k = in_one_run n (p ∷ L) v h m f in
    let q = k.0 in
    let low = k.2.0 in
    let high = k.3.1 in
    let width = width_of-filled p m.0 in
    let lo = b.0 in
    let hi = b.1 in
    ⊎_elim
    (λ (e : q ≡ p).
    let a : p.0 ≤ℤ v = subst (λ (r : ℤ × ℤ). r.0 ≤ℤ v) e low in
    let c : ((v +ℤ pos n) -ℤ pos 1) ≤ℤ p.1 = subst (λ (r : ℤ × ℤ). ((v +ℤ pos n) -ℤ pos 1) ≤ℤ r.1) e high in
    absurd (omega (arith, ints)))
    (λ (i : IsIn L q). one_covers L q z i (omega (arith, ints), omega (arith, ints)))
    k.1

pub head_is_short : (n : ℕ) (p : ℤ × ℤ) (L : List (ℤ × ℤ)) (o : Option (ℤ × ℤ)) → 0 < n → IsMaximal (p ∷ L) → width_of p < n → IsFitOf n (Covers L) o → IsFitOf n (Covers (p ∷ L)) o
head_is_short n p L o h m w k = fit_of_same n (Covers L) (Covers (p ∷ L)) o (λ v f. past_head n p L v h m w f) (λ z c. inr c) k

-- ---- a loop over the runs: what fits in the rest fits in all

abbrev pub FitsAsRest : ℕ → List (ℤ × ℤ) → ℕ → Type 0
FitsAsRest n L i = (o : Option (ℤ × ℤ)) → IsFitOf n (Covers (drop i L)) o → IsFitOf n (Covers L) o

open_rest : (L : List (ℤ × ℤ)) (i : ℕ) (d : ℤ × ℤ) → i < length L → IsMaximal L → IsMaximal (get_or L i d ∷ drop (i + 1) L)
open_rest L i d h m = subst IsMaximal (drop_more L i d h) (IsMaximal-drop L i m)

pub fits_as_all : (n : ℕ) (L : List (ℤ × ℤ)) → FitsAsRest n L 0
fits_as_all n [] o k = k
fits_as_all n (p ∷ L) o k = k

pub fits_as_next : (n : ℕ) (L : List (ℤ × ℤ)) (i : ℕ) (d : ℤ × ℤ) → 0 < n → i < length L → IsMaximal L → d ≡ get_or L i d → width_of d < n → FitsAsRest n L i → FitsAsRest n L (i + 1)
fits_as_next n L i d h l m is w f o k =
    let short : width_of (get_or L i d) < n = subst (λ (p : ℤ × ℤ). width_of p < n) is w in
    f o (subst (λ (M : List (ℤ × ℤ)). IsFitOf n (Covers M) o) (sym (drop_more L i d l)) (head_is_short n (get_or L i d) (drop (i + 1) L) o h (open_rest L i d l m) short k))

pub fits_here : (n : ℕ) (L : List (ℤ × ℤ)) (i : ℕ) (d run : ℤ × ℤ) → 0 < n → i < length L → IsMaximal L → d ≡ get_or L i d → n ≤ width_of d → run ≡ (d.0, (d.0 +ℤ pos n) -ℤ pos 1) →
    FitsAsRest n L i → IsFirstFit n (Covers L) run
fits_here n L i d run h l m is w e f =
    let wide : n ≤ width_of (get_or L i d) = subst (λ (p : ℤ × ℤ). n ≤ width_of p) is w in
    let there : run ≡ ((get_or L i d).0, ((get_or L i d).0 +ℤ pos n) -ℤ pos 1) = subst (λ (p : ℤ × ℤ). run ≡ (p.0, (p.0 +ℤ pos n) -ℤ pos 1)) is e in
    f (Some run) (subst (λ (M : List (ℤ × ℤ)). IsFirstFit n (Covers M) run) (sym (drop_more L i d l)) (head_fits n (get_or L i d) (drop (i + 1) L) run h (open_rest L i d l m) wide there))

nothing_left : (L : List (ℤ × ℤ)) (i : ℕ) (z : ℤ) → length L ≤ i → ¬ (Covers (drop i L) z)
nothing_left [] zero z h c = c
nothing_left [] (suc i) z h c = c
nothing_left (p ∷ L) zero z h c = absurd (omega arith)
nothing_left (p ∷ L) (suc i) z h c = nothing_left L i z (omega arith) c

pub nothing_fits : (n : ℕ) (L : List (ℤ × ℤ)) (i : ℕ) → 0 < n → length L ≤ i → FitsAsRest n L i → IsFitOf n (Covers L) None
nothing_fits n L i h l f = f None (λ v k. nothing_left L i v l (k v (omega (arith, ints), omega (arith, ints))))

-- ---- the members from a number on

rest_from_gap : (L : List (ℤ × ℤ)) (i : ℕ) (v : ℤ) → IsGapAt L v i → SameMembers (Covers (drop i L)) (AtLeast v (Covers L))
rest_from_gap L i v g z = (
  (λ c. (covers-drop L i z c, let k = above_all v (drop i L) z g.above c in omega (arith, ints))),
  (λ (c, low). ⊎_elim (λ (t : Covers (take i L) z). let k = below_all v (take i L) z g.below t in absurd (omega (arith, ints))) (λ (d : Covers (drop i L) z). d) (covers_split L i z c)),
)

pub fit_from_gap : (n : ℕ) (L : List (ℤ × ℤ)) (i : ℕ) (v : ℤ) (o : Option (ℤ × ℤ)) → IsGapAt L v i → IsFitOf n (Covers (drop i L)) o → IsFitOf n (AtLeast v (Covers L)) o
fit_from_gap n L i v o g k = fit_of_members n _ _ o (rest_from_gap L i v g) k

-- a run that holds a number, and those on both sides of it
pub record HoldsHere (L : List (ℤ × ℤ)) (v : ℤ) (i : ℕ) : Type 0 where
  pub less : i < length L
  pub has : (d : ℤ × ℤ) → d ≡ get_or L i d → IsBetween d v
  pub split : IsSplitAt v L i (i + 1)

has_item : (L : List (ℤ × ℤ)) (i : ℕ) (v : ℤ) (d : ℤ × ℤ) → IsSomeAnd (slice_get L i) (λ run. IsBetween run v) → d ≡ get_or L i d → IsBetween d v
has_item [] i v d h e = absurd h
has_item (p ∷ L) zero v d h e = subst (λ (r : ℤ × ℤ). IsBetween r v) (sym e) h
has_item (p ∷ L) (suc i) v d h e = has_item L i v d h e

-- R is the list, as a search saw it
pub holds_here : (R L : List (ℤ × ℤ)) (i : ℕ) (v : ℤ) → R ≡ L → IsMaximal L → IsSomeAnd (slice_get R i) (λ run. IsBetween run v) → HoldsHere L v i
holds_here R L i v e m h =
    let there : IsSomeAnd (slice_get L i) (λ run. IsBetween run v) = subst (λ (M : List (ℤ × ℤ)). IsSomeAnd (slice_get M i) (λ run. IsBetween run v)) e h in
    record { less = place_is_less L i v there; has = λ d. has_item L i v d there; split = split_by_run L i v m there }

pub bounds_from : (whole : ℤ × ℤ) (L : List (ℤ × ℤ)) (i : ℕ) (v : ℤ) (d : ℤ × ℤ) (low high : ℤ) → IsRunListIn whole L → HoldsHere L v i → d ≡ get_or L i d → low ≡ v → high ≡ d.1 → IsInRange whole (low, high)
bounds_from whole L i v d low high r h is e f =
    let b = subst (IsInRange whole) (sym is) (bounds_in_range_at whole L i d r h.less) in
    let a = h.has d is in
    let lo = b.0 in
    let hi = b.1 in
    let from = a.0 in
    (omega (arith, ints), omega (arith, ints))

module _ (L : List (ℤ × ℤ)) (i : ℕ) (v : ℤ) (d : ℤ × ℤ) (m : IsMaximal L) (here : HoldsHere L v i) (is : d ≡ get_or L i d) where
  has : IsBetween d v
  has = here.has d is

  rest_is : drop i L ≡ d ∷ drop (i + 1) L
  rest_is = drop_more L i d here.less ∙ ap (λ (p : ℤ × ℤ). p ∷ drop (i + 1) L) (sym is)

  rest_from_run : SameMembers (Covers ((v, d.1) ∷ drop (i + 1) L)) (AtLeast v (Covers L))
  rest_from_run z = (
    ⊎_elim
        (λ (b : IsBetween (v, d.1) z). let low = b.0 in let a = has.0 in (covers_at L i d z here.less (subst (λ (p : ℤ × ℤ). IsBetween p z) is (omega (arith, ints), b.1)), low))
        (λ (c : Covers (drop (i + 1) L) z). (covers-drop L (i + 1) z c, let k = above_all v (drop (i + 1) L) z here.split.above c in omega (arith, ints))),
    (λ (c, low). ⊎_elim
        (λ (t : Covers (take i L) z). let k = below_all v (take i L) z here.split.below t in absurd (omega (arith, ints)))
        (λ (r : Covers (drop i L) z). ⊎_elim (λ (b : IsBetween d z). inl (low, b.1)) (λ (c : Covers (drop (i + 1) L) z). inr c) (subst (λ (M : List (ℤ × ℤ)). Covers M z) rest_is r))
        (covers_split L i z c)),
  )

  from_run_is_maximal : IsMaximal ((v, d.1) ∷ drop (i + 1) L)
  from_run_is_maximal = let o = subst IsMaximal rest_is (IsMaximal-drop L i m) in (has.1, o.1, o.2)

  pub fit_in_run : (n : ℕ) (part run : ℤ × ℤ) → 0 < n → part ≡ (v, d.1) → n ≤ width_of part → run ≡ (part.0, (part.0 +ℤ pos n) -ℤ pos 1) → IsFirstFit n (AtLeast v (Covers L)) run
  fit_in_run n part run h e w f =
      let P : ℤ × ℤ → Type 0 = λ p. IsMaximal (p ∷ drop (i + 1) L) in
      let Q : ℤ × ℤ → Type 0 = λ p. SameMembers (Covers (p ∷ drop (i + 1) L)) (AtLeast v (Covers L)) in
      fit_of_members n _ _ (Some run) (subst Q (sym e) rest_from_run) (head_fits n part (drop (i + 1) L) run h (subst P (sym e) from_run_is_maximal) w f)

  pub fit_past_run : (n : ℕ) (part : ℤ × ℤ) (o : Option (ℤ × ℤ)) → 0 < n → part ≡ (v, d.1) → width_of part < n → IsFitOf n (Covers (drop (i + 1) L)) o → IsFitOf n (AtLeast v (Covers L)) o
  fit_past_run n part o h e w k =
      let P : ℤ × ℤ → Type 0 = λ p. IsMaximal (p ∷ drop (i + 1) L) in
      let Q : ℤ × ℤ → Type 0 = λ p. SameMembers (Covers (p ∷ drop (i + 1) L)) (AtLeast v (Covers L)) in
      fit_of_members n _ _ o (subst Q (sym e) rest_from_run) (head_is_short n part (drop (i + 1) L) o h (subst P (sym e) from_run_is_maximal) w k)
