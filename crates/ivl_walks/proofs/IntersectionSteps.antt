-- What two run lists have in common, from two places on: of the pairs at these places, the one that ends first is done.
use Rattle.std.proofs.Common.{◌≡◌, ◌↔◌, ◌⊎◌, inl, inr, ℕ, ◌+◌, Bool, true, false, IsTrue, ℤ, pos, ◌≤ℤ◌, ◌<ℤ◌, arith, List, [], ◌∷◌, ◌≤◌, length, Some, None, ◌∙◌, map, drop, refl, sym, subst}
use Rattle.std.specs.Prelude.{Option, not, slice_get}
use Rattle.std.specs.Int.{from_bool, int_max, int_min}
use Rattle.std.specs.Option.{option_zip}
use Rattle.std.proofs.lemmas.Int.{ints, clamps, by_lt_z}
use Rattle.std.proofs.lemmas.List.{length-map}
use Rattle.std.proofs.lemmas.Option.{get_or_from_slice_get, slice_get_within}
use Rattle.ivl_laws.specs.Sets.{HasNone, IsBetween, IsInRange, Intersection, SameMembers, Union}
use Rattle.ivl_laws.specs.Runs.{Covers, IsMaximal, IsRunsOf}
use Rattle.ivl_laws.proofs.Adding.{untrue}
use Rattle.ivl_laws.proofs.Lengths.{length_of_intersection}
use Rattle.ivl_laws.proofs.Merging.{overlap_between}
use Rattle.ivl_laws.proofs.Runs.{pair_same}
use Rattle.ivl_walks.proofs.MergeState.{building_same}
use Rattle.ivl_walks.proofs.HeldRun.{IsLed, zip_none}
use Rattle.ivl_walks.proofs.Intersections.{common_next, shared_is_above, turned}
use Rattle.ivl_walks.specs.Sinks.{AddsFilled, IsRunIn}
use Rattle.ivl_walks.proofs.Laying.{IsHeld, IsLaying, laying_begins, laying_ends, lays}
use Rattle.ivl_walks.proofs.Suffixes.{none_from, rest_all, rest_at, rest_maximal}

pub both_starts : {a b m n : ℤ} → a ≡ m → b ≡ n → int_min a b ≡ int_min m n
both_starts e f = cc

pub both_in_range : (whole p q : ℤ × ℤ) (x y : ℤ) → IsRunIn whole p → IsRunIn whole q → x ≡ int_max p.0 q.0 → y ≡ int_min p.1 q.1 → IsInRange whole (x, y)
both_in_range whole p q x y (o, (a, b)) (o', (a', b')) e f = (omega (arith, ints, clamps), omega (arith, ints, clamps))

-- two values whose numbers are ends of two runs
pub ends_past : (x y a b : ℤ) → x ≡ a → y ≡ b → y <ℤ x → b ≤ℤ a
ends_past x y a b e f h = omega (arith, ints)

-- a run before its list is led by itself
pub led : (p : ℤ × ℤ) (A : List (ℤ × ℤ)) → IsMaximal (p ∷ A) → IsLed (Some p) A
led p A m = record { maximal = m; ended = λ t. absurd (cc) }

module _ (A B : List (ℤ × ℤ)) (p q r : ℤ × ℤ) (S : ℤ → Type 0) (H H' : List (ℤ × ℤ) → Type 0) (m : IsMaximal (p ∷ A)) (n : IsMaximal (q ∷ B))
    (shared : SameMembers (IsBetween r) (Intersection (IsBetween p) (IsBetween q))) (l : AddsFilled r H H')
    (W : List (ℤ × ℤ)) (u : IsLaying (Intersection (Covers (p ∷ A)) (Covers (q ∷ B))) S H W) where
  laid_next : (W' : List (ℤ × ℤ)) × IsHeld (Union (Covers W) (IsBetween r)) H' W'
  laid_next = lays W r H H' u.state.maximal
      (shared_is_above W (p ∷ A) (q ∷ B) p q r S refl refl u.state shared) u.held l

  pub meets_first : p.1 ≤ℤ q.1 → (W' : List (ℤ × ℤ)) × IsLaying (Intersection (Covers A) (Covers (q ∷ B))) S H' W'
  meets_first h = let (W', v) = laid_next in (
    W',
    record {
      state = common_next true W W' (p ∷ A) (q ∷ B) A (q ∷ B) p q r S refl refl m n u.state shared v.runs ((λ t. h), (λ le. refl)) (p, refl) refl;
      held = v.held;
    },
  )

  pub meets_second : q.1 ≤ℤ p.1 → (W' : List (ℤ × ℤ)) × IsLaying (Intersection (Covers (p ∷ A)) (Covers B)) S H' W'
  meets_second h = let (W', v) = laid_next in (
    W',
    record {
      state = building_same (pos 2) W' _ _ S (turned (Covers B) (Covers (p ∷ A)))
          (common_next true W W' (q ∷ B) (p ∷ A) B (p ∷ A) q p r S refl refl n m (building_same (pos 2) W _ _ S (turned (Covers (p ∷ A)) (Covers (q ∷ B))) u.state)
          (λ z. ((λ i. let (x, y) = (shared z).0 i in (y, x)), (λ (y, x). (shared z).1 (x, y)))) v.runs ((λ t. h), (λ le. refl)) (q, refl) refl);
      held = v.held;
    },
  )

-- ---- the same, by the places in two lists

module _ {X : Type 0} (pair : X → ℤ × ℤ) (a b : List X) where
  abbrev pub common_from : ℕ → ℕ → ℤ → Type 0
  common_from i j = Intersection (Covers (map pair (drop i a))) (Covers (map pair (drop j b)))

  abbrev pub common_of : ℤ → Type 0
  common_of = Intersection (Covers (map pair a)) (Covers (map pair b))

  pub meeting_begins : (H : List (ℤ × ℤ) → Type 0) → H [] → (W : List (ℤ × ℤ)) × IsLaying (common_from 0 0) common_of H W
  meeting_begins H h = rw (rest_all pair a, rest_all pair b) (laying_begins common_of H h)

  pub intersection_at_most : (L : List (ℤ × ℤ)) → IsRunsOf L common_of → length L ≤ length a + length b
  intersection_at_most L r =
      let few = length_of_intersection (map pair a) (map pair b) L r in
      let first = length-map a pair in let second = length-map b pair in omega (arith, few, first, second)

  pub meeting_ends : (i j : ℕ) (held other : Option X) (H : List (ℤ × ℤ) → Type 0) → held ≡ slice_get a i → other ≡ slice_get b j → option_zip held other ≡ None →
      (W : List (ℤ × ℤ)) × IsLaying (common_from i j) common_of H W → (L : List (ℤ × ℤ)) × IsHeld common_of H L
  meeting_ends i j held other H e f z = laying_ends (common_from i j) common_of H (none (zip_none held other z))
    where
      none : (held ≡ None) ⊎ (other ≡ None) → HasNone (common_from i j)
      none (inl h) z c = subst (λ (L : List (ℤ × ℤ)). Covers L z) (none_from pair a i (sym e ∙ h)) c.0
      none (inr h) z c = subst (λ (L : List (ℤ × ℤ)). Covers L z) (none_from pair b j (sym f ∙ h)) c.1

  module _ (i j : ℕ) (x y : X) (r : ℤ × ℤ) (H H' : List (ℤ × ℤ) → Type 0) (m : IsMaximal (map pair a)) (n : IsMaximal (map pair b))
      (at : slice_get a i ≡ Some x) (by : slice_get b j ≡ Some y)
      (starts : r.0 ≡ int_max (pair x).0 (pair y).0) (ends : r.1 ≡ int_min (pair x).1 (pair y).1) (l : AddsFilled r H H')
      (u : (W : List (ℤ × ℤ)) × IsLaying (common_from i j) common_of H W) where
    abbrev A : List (ℤ × ℤ)
    A = map pair (drop (i + 1) a)

    abbrev B : List (ℤ × ℤ)
    B = map pair (drop (j + 1) b)

    first_open : map pair (drop i a) ≡ pair x ∷ A
    first_open = rest_at pair a i x (slice_get_within a i x at) (sym (get_or_from_slice_get a i x x at))

    second_open : map pair (drop j b) ≡ pair y ∷ B
    second_open = rest_at pair b j y (slice_get_within b j y by) (sym (get_or_from_slice_get b j y y by))

    first_is : IsMaximal (pair x ∷ A)
    first_is = subst IsMaximal first_open (rest_maximal pair a i m)

    second_is : IsMaximal (pair y ∷ B)
    second_is = subst IsMaximal second_open (rest_maximal pair b j n)

    shared : SameMembers (IsBetween r) (Intersection (IsBetween (pair x)) (IsBetween (pair y)))
    shared = subst (λ (t : ℤ × ℤ). SameMembers (IsBetween t) (Intersection (IsBetween (pair x)) (IsBetween (pair y)))) (sym (pair_same r _ starts ends)) (overlap_between (pair x) (pair y))

    state : (W : List (ℤ × ℤ)) × IsLaying (Intersection (Covers (pair x ∷ A)) (Covers (pair y ∷ B))) common_of H W
    state = subst (λ (M : List (ℤ × ℤ)). (W : List (ℤ × ℤ)) × IsLaying (Intersection (Covers (pair x ∷ A)) (Covers M)) common_of H W) second_open
        (subst (λ (M : List (ℤ × ℤ)). (W : List (ℤ × ℤ)) × IsLaying (Intersection (Covers M) (Covers (map pair (drop j b)))) common_of H W) first_open u)

    meeting_first : (pair x).1 ≤ℤ (pair y).1 → (W : List (ℤ × ℤ)) × IsLaying (common_from (i + 1) j) common_of H' W
    meeting_first le = let (W, v) = state in
        subst (λ (M : List (ℤ × ℤ)). (V : List (ℤ × ℤ)) × IsLaying (Intersection (Covers A) (Covers M)) common_of H' V) (sym second_open)
        (meets_first A B (pair x) (pair y) r common_of H H' first_is second_is shared l W v le)

    meeting_second : (pair y).1 ≤ℤ (pair x).1 → (W : List (ℤ × ℤ)) × IsLaying (common_from i (j + 1)) common_of H' W
    meeting_second le = let (W, v) = state in
        subst (λ (M : List (ℤ × ℤ)). (V : List (ℤ × ℤ)) × IsLaying (Intersection (Covers M) (Covers B)) common_of H' V) (sym first_open)
        (meets_second A B (pair x) (pair y) r common_of H H' first_is second_is shared l W v le)

    pub meeting_next : (t : Bool) (v w : ℤ) (n m : ℕ) → v ≡ (pair x).1 → w ≡ (pair y).1 → (IsTrue t ↔ (v ≤ℤ w)) → n ≡ from_bool t → m ≡ from_bool (not t) →
        (W : List (ℤ × ℤ)) × IsLaying (common_from (i + n) (j + m)) common_of H' W
    meeting_next t v w n m ev ew ends en em = go t ends en em
      where
        to : (k l : ℕ) → i + n ≡ k → j + m ≡ l → (W : List (ℤ × ℤ)) × IsLaying (common_from k l) common_of H' W → (W : List (ℤ × ℤ)) × IsLaying (common_from (i + n) (j + m)) common_of H' W
        to k l e f s = rw (e, f) s

        go : (t : Bool) → (IsTrue t ↔ (v ≤ℤ w)) → n ≡ from_bool t → m ≡ from_bool (not t) → (W : List (ℤ × ℤ)) × IsLaying (common_from (i + n) (j + m)) common_of H' W
        go true h e f = let one : n ≡ 1 = e in let none : m ≡ 0 = f in let le = h.0 refl in
            to (i + 1) j (omega (arith, one)) (omega (arith, none)) (meeting_first (omega (arith, ints)))
        go false h e f = let none : n ≡ 0 = e in let one : m ≡ 1 = f in
            let le : w ≤ℤ v = by_lt_z v w (λ lt. absurd (untrue false refl h (omega (arith, ints)))) (λ le. le) in
            to i (j + 1) (omega (arith, none)) (omega (arith, one)) (meeting_second (omega (arith, ints)))
