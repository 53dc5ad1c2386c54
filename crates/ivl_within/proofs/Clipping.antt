-- Sums and differences of runs, clipped to a range.
use Rattle.std.proofs.Common.{◌≡◌, ◌∙◌, ◌⊎◌, ⊎_elim, inl, inr, ℕ, ◌+◌, ◌-◌, ◌^◌, ◌<◌, ◌≤◌, ℤ, pos, negsuc, ◌+ℤ◌, ◌-ℤ◌, ◌≤ℤ◌, Bool, true, false, IsTrue, not, ◌↔◌, List, [], ◌∷◌, ◌++◌, length, map, take, take_all, get_or, refl, sym, ap, subst, arith}
use mir.Syntax.{w128}
use mir.Val.{SFits, of_z, to_z}
use Rattle.std.proofs.Math.Bool.{true≢false}
use Rattle.std.proofs.lemmas.Int.{ints, clamps, by_lt_z}
use Rattle.std.specs.Int.{int_min, int_max}
use Rattle.ivl_laws.specs.Sets.{IsBetween, IsSubset, SameMembers, HasNone, HasSome, Without, Union}
use Rattle.ivl_laws.specs.Runs.{Covers, IsMaximal}
use Rattle.ivl_laws.specs.Arithmetic.{pairwise, interval_sum, interval_difference}
use Rattle.ivl_laws.specs.Bounds.{IsBoundRange}
use Rattle.ivl_laws.proofs.Merging.{covers-append, covers-append_left, covers-append_right}
use Rattle.ivl_laws.proofs.Results.{pairwise-next, map-next}
use Rattle.ivl_laws.proofs.Products.{sums_of_runs, differences_of_runs}
use Rattle.ivl_laws.proofs.Intervals.{none_is_crossed, in_range_is_within}
use Rattle.ivl_laws.proofs.Places.{IsMaximal-take, covers-take}
use Rattle.ivl_laws.proofs.Runs.{lower_end, upper_end}
use Rattle.ivl_within.specs.Within.{Clipped, SumsBy, pair_by}
use Rattle.ivl_within.specs.declared.within.Combined.{Combined}
use Rattle.ivl_within.specs.declared.within.Combined.TheVariants.{Sum, Difference}

-- ---- one entry more, and one row more

module _ (w : ℤ × ℤ) (old A B entries new : List (ℤ × ℤ)) where
  -- what covers the clipped A beside the old, and the clipped B, covers the clipped A and B beside the old
  grown : SameMembers (Covers entries) (Union (Covers old) (Clipped w (Covers A)))
      → SameMembers (Covers new) (Union (Covers entries) (Clipped w (Covers B)))
      → SameMembers (Covers new) (Union (Covers old) (Clipped w (Covers (A ++ B))))
  grown h k z = (
    (λ c. ⊎_elim
        (λ e. ⊎_elim (λ o. inl o) (λ a. inr (covers-append_left A B z a.0, a.1)) ((h z).0 e))
        (λ b. inr (covers-append_right A B z b.0, b.1))
        ((k z).0 c)),
    ⊎_elim
        (λ o. (k z).1 (inl ((h z).1 (inl o))))
        (λ n. ⊎_elim (λ a. (k z).1 (inl ((h z).1 (inr (a, n.1))))) (λ b. (k z).1 (inr (b, n.1))) (covers-append A B z n.0)),
  )

-- an entry that covers a clipped interval was pushed
pushed : (w : ℤ × ℤ) (entries new : List (ℤ × ℤ)) (e q : ℤ × ℤ) → new ≡ entries ++ e ∷ [] → SameMembers (IsBetween e) (Clipped w (IsBetween q))
    → SameMembers (Covers new) (Union (Covers entries) (Clipped w (Covers (q ∷ []))))
pushed w entries new e q is h = subst (λ (n : List (ℤ × ℤ)). SameMembers (Covers n) (Union (Covers entries) (Clipped w (Covers (q ∷ []))))) (sym is) (λ z. (
  (λ c. ⊎_elim (λ o. inl o) (⊎_elim (λ b. let k = (h z).0 b in inr (inl k.0, k.1)) (λ n. absurd n)) (covers-append entries (e ∷ []) z c)),
  ⊎_elim (λ o. covers-append_left entries (e ∷ []) z o) (λ k. ⊎_elim (λ b. covers-append_right entries (e ∷ []) z (inl ((h z).1 (b, k.1)))) (λ n. absurd n) k.0),
))

pub row_grows : (w : ℤ × ℤ) (f : ℤ × ℤ → ℤ × ℤ) (old entries new xs : List (ℤ × ℤ)) (j : ℕ) (x e : ℤ × ℤ) → j < length xs → x ≡ get_or xs j x → new ≡ entries ++ e ∷ []
    → SameMembers (IsBetween e) (Clipped w (IsBetween (f x)))
    → SameMembers (Covers entries) (Union (Covers old) (Clipped w (Covers (map f (take j xs)))))
    → SameMembers (Covers new) (Union (Covers old) (Clipped w (Covers (map f (take (j + 1) xs)))))
row_grows w f old entries new xs j x e l is p h i =
    let next : map f (take (j + 1) xs) ≡ map f (take j xs) ++ f x ∷ [] = map-next f xs j x l ∙ ap (λ (y : ℤ × ℤ). map f (take j xs) ++ f y ∷ []) (sym is) in
    subst (λ (m : List (ℤ × ℤ)). SameMembers (Covers new) (Union (Covers old) (Clipped w (Covers m)))) (sym next)
    (grown w old (map f (take j xs)) (f x ∷ []) entries new i (pushed w entries new e (f x) p h))

pub rows_grow : (w : ℤ × ℤ) (f : ℤ × ℤ → ℤ × ℤ → ℤ × ℤ) (old entries new L M : List (ℤ × ℤ)) (i : ℕ) (p : ℤ × ℤ) → i < length L → p ≡ get_or L i p
    → SameMembers (Covers new) (Union (Covers entries) (Clipped w (Covers (map (f p) M))))
    → SameMembers (Covers entries) (Union (Covers old) (Clipped w (Covers (pairwise f (take i L) M))))
    → SameMembers (Covers new) (Union (Covers old) (Clipped w (Covers (pairwise f (take (i + 1) L) M))))
rows_grow w f old entries new L M i p l is k h =
    let next : pairwise f (take (i + 1) L) M ≡ pairwise f (take i L) M ++ map (f p) M = pairwise-next f L M i p l ∙ ap (λ (y : ℤ × ℤ). pairwise f (take i L) M ++ map (f y) M) (sym is) in
    subst (λ (m : List (ℤ × ℤ)). SameMembers (Covers new) (Union (Covers old) (Clipped w (Covers m)))) (sym next)
    (grown w old (pairwise f (take i L) M) (map (f p) M) entries new h k)

-- what covers the whole window beside the old covers all that is clipped to it
pub whole_window : (w : ℤ × ℤ) (old new : List (ℤ × ℤ)) (S T : ℤ → Type 0) → SameMembers (Covers new) (Union (Covers old) (Clipped w S)) → IsSubset S T
    → IsSubset (IsBetween w) (Covers new) → SameMembers (Covers new) (Union (Covers old) (Clipped w T))
whole_window w old new S T h part whole z = (
  (λ c. ⊎_elim inl (λ a. inr (part z a.0, a.1)) ((h z).0 c)),
  ⊎_elim (λ o. (h z).1 (inl o)) (λ n. whole z n.1),
)

-- the whole window was pushed
pub whole_pushed : (w e : ℤ × ℤ) (entries new : List (ℤ × ℤ)) → new ≡ entries ++ e ∷ [] → SameMembers (IsBetween e) (IsBetween w) → IsSubset (IsBetween w) (Covers new)
whole_pushed w e entries new is same z b = subst (λ (n : List (ℤ × ℤ)). Covers n z) (sym is) (covers-append_right entries (e ∷ []) z (inl ((same z).1 b)))

-- ---- all rows

sums_of_both : (op : Combined) (L M : List (ℤ × ℤ)) → IsMaximal L → IsMaximal M → SameMembers (Covers (pairwise (pair_by op) L M)) (SumsBy op (Covers L) (Covers M))
sums_of_both Sum L M l m z = let e = sums_of_runs L M z l m in (e.1, e.0)
sums_of_both Difference L M l m z = let e = differences_of_runs L M z l m in (e.1, e.0)

pub clipped_sums : (w : ℤ × ℤ) (op : Combined) (L M old entries : List (ℤ × ℤ)) (i : ℕ) → IsMaximal L → IsMaximal M → length L ≤ i
    → SameMembers (Covers entries) (Union (Covers old) (Clipped w (Covers (pairwise (pair_by op) (take i L) M))))
    → SameMembers (Covers entries) (Union (Covers old) (Clipped w (SumsBy op (Covers L) (Covers M))))
clipped_sums w op L M old entries i l m h k =
    let all = subst (λ (N : List (ℤ × ℤ)). SameMembers (Covers entries) (Union (Covers old) (Clipped w (Covers (pairwise (pair_by op) N M))))) (take_all i L h) k in
    let both = sums_of_both op L M l m in
    λ z. (
      (λ c. ⊎_elim inl (λ a. inr ((both z).0 a.0, a.1)) ((all z).0 c)),
      ⊎_elim (λ o. (all z).1 (inl o)) (λ s. (all z).1 (inr ((both z).1 s.0, s.1))),
    )

-- the results of a part of a list are among those of all of it
pub part_of_sums : (op : Combined) (S S' T : ℤ → Type 0) → IsSubset S S' → IsSubset (SumsBy op S T) (SumsBy op S' T)
part_of_sums Sum S S' T part z (x, y, s, t, e) = (x, y, part x s, t, e)
part_of_sums Difference S S' T part z (x, y, s, t, e) = (x, y, part x s, t, e)

pub some_sums : (op : Combined) (L M : List (ℤ × ℤ)) (k : ℕ) → IsMaximal L → IsMaximal M → IsSubset (Covers (pairwise (pair_by op) (take k L) M)) (SumsBy op (Covers L) (Covers M))
some_sums op L M k l m z c = part_of_sums op (Covers (take k L)) (Covers L) (Covers M) (covers-take L k) z ((sums_of_both op (take k L) M (IsMaximal-take L k l) m z).0 c)

-- nothing is old
pub none_old : (old new : List (ℤ × ℤ)) (S : ℤ → Type 0) → old ≡ [] → SameMembers (Covers new) (Union (Covers old) S) → SameMembers (Covers new) S
none_old old new S e h z =
    let k = subst (λ (n : List (ℤ × ℤ)). SameMembers (Covers new) (Union (Covers n) S)) e h z in
    ((λ c. ⊎_elim (λ n. absurd n) (λ s. s) (k.0 c)), (λ s. k.1 (inr s)))

-- the results of two sets of one run each
pub clipped_pair : (w : ℤ × ℤ) (op : Combined) (L M : List (ℤ × ℤ)) (p q r : ℤ × ℤ) → L ≡ p ∷ [] → M ≡ q ∷ [] → p.0 ≤ℤ p.1 → q.0 ≤ℤ q.1
    → SameMembers (IsBetween r) (Clipped w (IsBetween (pair_by op p q))) → SameMembers (IsBetween r) (Clipped w (SumsBy op (Covers L) (Covers M)))
clipped_pair w op L M p q r e f filled filled' h =
    let both = sums_of_both op (p ∷ []) (q ∷ []) (filled, tt, tt) (filled', tt, tt) in
    rw (e, f) (λ z. (
      (λ b. let (s, c) = (h z).0 b in ((both z).0 (inl s), c)),
      (λ (s, c). (h z).1 (⊎_elim (λ b. b) (λ n. absurd n) ((both z).1 s), c)),
    ))

-- a list with one pair
pub one_item : (L : List (ℤ × ℤ)) (p : ℤ × ℤ) → length L ≡ 1 → p ≡ get_or L 0 p → L ≡ p ∷ []
one_item [] p l e = absurd (omega (arith, l))
one_item (q ∷ []) p l e = ap (λ (x : ℤ × ℤ). x ∷ []) (sym e)
one_item (q ∷ q' ∷ L) p l e = absurd (omega (arith, l))

-- ---- whether something is cut

cut_or_within : (w : ℤ × ℤ) (L : List (ℤ × ℤ)) → IsSubset (Covers L) (IsBetween w) ⊎ HasSome (Without (Covers L) (IsBetween w))
cut_or_within w [] = inl (λ z n. absurd n)
cut_or_within w (p ∷ L) = ⊎_elim
    (λ within. by_lt_z p.1 p.0
    (λ crossed. inl (λ z. ⊎_elim (λ b. absurd ((none_is_crossed p).1 crossed z b)) (within z)))
    (λ filled. by_lt_z p.0 w.0
    (λ low. inr (p.0, (inl (lower_end p filled), λ b. let k = b.0 in omega (arith, ints))))
    (λ low. by_lt_z w.1 p.1
    (λ high. inr (p.1, (inl (upper_end p filled), λ b. let k = b.1 in omega (arith, ints))))
    (λ high. inl (λ z. ⊎_elim (in_range_is_within w p (low, high) z) (within z))))))
    (λ (z, (c, n)). inr (z, (inr c, n)))
    (cut_or_within w L)

-- what a test of all sums tells, turned
pub tells_cut : (w : ℤ × ℤ) (op : Combined) (L M : List (ℤ × ℤ)) (r : Bool) → IsMaximal L → IsMaximal M → (IsTrue r ↔ IsSubset (SumsBy op (Covers L) (Covers M)) (IsBetween w))
    → IsTrue (not r) ↔ HasSome (Without (SumsBy op (Covers L) (Covers M)) (IsBetween w))
tells_cut w op L M true l m h = ((λ t. absurd (true≢false (sym t))), (λ (z, (s, n)). absurd (n (h.0 refl z s))))
tells_cut w op L M false l m h =
    let both = sums_of_both op L M l m in (
      (λ _. ⊎_elim
          (λ within. absurd (true≢false (sym (h.1 (λ z s. within z ((both z).1 s))))))
          (λ (z, (c, n)). (z, ((both z).0 c, n)))
          (cut_or_within w (pairwise (pair_by op) L M))),
      (λ _. refl),
    )

-- ---- the greater and the less of a number and an end of the range, in 128 bits

module _ (x v n m : ℤ) (fits : SFits w128 x) (is : n ≡ v) (low : negsuc (2 ^ 63 - 1) ≤ℤ v) (high : v ≤ℤ pos (2 ^ 64 - 1)) where
  pub max_seen : m ≡ int_max (to_z w128 (of_z w128 x)) (to_z w128 (of_z w128 n)) → (m ≡ int_max x v) × (to_z w128 (of_z w128 m) ≡ m)
  max_seen e =
      let a : to_z w128 (of_z w128 x) ≡ x = omega (arith, ints) in
      let b : to_z w128 (of_z w128 n) ≡ v = omega (arith, ints) in
      let f : m ≡ int_max x v = e ∙ ap (λ y. int_max y (to_z w128 (of_z w128 n))) a ∙ ap (λ y. int_max x y) b in
      (f, omega (arith, ints, clamps))

  pub min_seen : m ≡ int_min (to_z w128 (of_z w128 x)) (to_z w128 (of_z w128 n)) → (m ≡ int_min x v) × (to_z w128 (of_z w128 m) ≡ m)
  min_seen e =
      let a : to_z w128 (of_z w128 x) ≡ x = omega (arith, ints) in
      let b : to_z w128 (of_z w128 n) ≡ v = omega (arith, ints) in
      let f : m ≡ int_min x v = e ∙ ap (λ y. int_min y (to_z w128 (of_z w128 n))) a ∙ ap (λ y. int_min x y) b in
      (f, omega (arith, ints, clamps))

-- ---- one interval, clipped

module _ (w p : ℤ × ℤ) (low high : ℤ) (l : low ≡ int_max p.0 w.0) (h : high ≡ int_min p.1 w.1) where
  pub clip_is : (r : ℤ × ℤ) → r ≡ (low, high) → SameMembers (IsBetween r) (Clipped w (IsBetween p))
  clip_is r e z = rw e (
    (λ (a, b). ((omega (arith, ints, clamps), omega (arith, ints, clamps)), (omega (arith, ints, clamps), omega (arith, ints, clamps)))),
    (λ ((a, b), (c, d)). (omega (arith, ints, clamps), omega (arith, ints, clamps))),
  )

  -- the whole interval lies above the range
  pub clip_none_above : (r : ℤ × ℤ) → HasNone (IsBetween r) → ¬ (IsBetween w low) → SameMembers (IsBetween r) (Clipped w (IsBetween p))
  clip_none_above r none out z = (
    (λ b. absurd (none z b)),
    (λ ((a, b), (c, d)). absurd (out (omega (arith, ints, clamps), omega (arith, ints, clamps)))),
  )

  -- or below it
  pub clip_none_below : (r : ℤ × ℤ) → HasNone (IsBetween r) → ¬ (IsBetween w high) → SameMembers (IsBetween r) (Clipped w (IsBetween p))
  clip_none_below r none out z = (
    (λ b. absurd (none z b)),
    (λ ((a, b), (c, d)). absurd (out (omega (arith, ints, clamps), omega (arith, ints, clamps)))),
  )

pub sum_is : (w a b r : ℤ × ℤ) (low high : ℤ) → low ≡ a.0 +ℤ b.0 → high ≡ a.1 +ℤ b.1 → SameMembers (IsBetween r) (Clipped w (IsBetween (low, high))) → SameMembers (IsBetween r) (Clipped w (IsBetween (interval_sum a b)))
sum_is w a b r low high e f h = rw (sym e, sym f) h

pub difference_is : (w a b r : ℤ × ℤ) (low high : ℤ) → low ≡ a.0 -ℤ b.1 → high ≡ a.1 -ℤ b.0 → SameMembers (IsBetween r) (Clipped w (IsBetween (low, high))) → SameMembers (IsBetween r) (Clipped w (IsBetween (interval_difference a b)))
difference_is w a b r low high e f h = rw (sym e, sym f) h

-- ---- the ends of a range

module _ (whole : ℤ × ℤ) (bounds : IsBoundRange whole) where
  -- a number of the range stands in 128 bits
  pub at_least_in_range : (z : ℤ) → IsBetween whole z → negsuc (2 ^ 63 - 1) ≤ℤ z
  at_least_in_range z (a, b) = let h = bounds.low_at_least in omega (arith, ints)

  pub at_most_in_range : (z : ℤ) → IsBetween whole z → z ≤ℤ pos (2 ^ 64 - 1)
  at_most_in_range z (a, b) = let h = bounds.high_at_most in omega (arith, ints)

  -- numbers of the range that are added, or taken from one another, in 128 bits
  module _ (x u a y v b : ℤ) (e : x ≡ u) (f : u ≡ a) (in_range : IsBetween whole u) (e' : y ≡ v) (f' : v ≡ b) (in_range' : IsBetween whole v) where
    pub wide_sum : to_z w128 (of_z w128 (to_z w128 (of_z w128 x) +ℤ to_z w128 (of_z w128 y))) ≡ a +ℤ b
    wide_sum =
        let h = bounds.low_at_least in
        let k = bounds.high_at_most in
        let (p, q) = in_range in
        let (p', q') = in_range' in
        let s : to_z w128 (of_z w128 x) ≡ a = omega (arith, ints) in
        let t : to_z w128 (of_z w128 y) ≡ b = omega (arith, ints) in
        rw (s, t) (omega (arith, ints))

    pub wide_difference : to_z w128 (of_z w128 (to_z w128 (of_z w128 x) -ℤ to_z w128 (of_z w128 y))) ≡ a -ℤ b
    wide_difference =
        let h = bounds.low_at_least in
        let k = bounds.high_at_most in
        let (p, q) = in_range in
        let (p', q') = in_range' in
        let s : to_z w128 (of_z w128 x) ≡ a = omega (arith, ints) in
        let t : to_z w128 (of_z w128 y) ≡ b = omega (arith, ints) in
        rw (s, t) (omega (arith, ints))
