-- How many members two sets have together, in common, and apart.
use Rattle.std.proofs.Common.{◌≡◌, ◌↔◌, ◌≤◌, ◌+◌, ◌-◌, ◌⊎◌, inl, inr, ⊎_elim, Bool, true, false, true≢false, IsTrue, ℕ, ℤ, pos, ◌≤ℤ◌, List, [], ◌∷◌, ◌++◌, length, take, Some, arith, refl, sym, subst}
use Rattle.std.proofs.lemmas.Int.{ints, by_lt_z}
use Rattle.std.specs.Int.{from_bool}
use Rattle.std.specs.Prelude.{not, slice_get, ◌<ℤ◌}
use Rattle.ivl_laws.specs.Bounds.{width_of}
use Rattle.ivl_laws.specs.Counts.{IsCountOf, IsDistinct, IsIn}
use Rattle.ivl_laws.specs.Sets.{HasNone, Intersection, IsBetween, IsSubset, SameMembers, Union, Without}
use Rattle.ivl_laws.specs.Runs.{Covers, IsMaximal, IsRunsOf}
use Rattle.ivl_laws.proofs.Counts.{IsCountOf-apart, IsCountOf-none, IsCountOf-same, count_is_monotone, count_is_unique}
use Rattle.ivl_laws.proofs.Intervals.{IsCountOf-width_of}
use Rattle.ivl_walks.specs.HeldRun.{IsTakenIf}
use Rattle.ivl_walks.specs.Order.{IsBelow}
use Rattle.ivl_walks.proofs.MergeState.{IsBuilding, building_ends, building_starts, written_if_filled}
use Rattle.ivl_walks.proofs.Intersections.{common_next, first_covers, shared_is_above}

-- ---- the numbers of a list that are in T, and the others

pub record IsParted (xs : List ℤ) (T : ℤ → Type 0) : Type 0 where
  pub held : List ℤ
  pub others : List ℤ
  pub held_once : IsDistinct held
  pub others_once : IsDistinct others
  pub in_held : (z : ℤ) → IsIn held z → IsIn xs z × T z
  pub in_others : (z : ℤ) → IsIn others z → IsIn xs z × (¬ (T z))
  pub all_held : (z : ℤ) → IsIn xs z → T z → IsIn held z
  pub all_others : (z : ℤ) → IsIn xs z → ¬ (T z) → IsIn others z

with_held : (x : ℤ) (xs : List ℤ) (T : ℤ → Type 0) → ¬ (IsIn xs x) → T x → IsParted xs T → IsParted (x ∷ xs) T
with_held x xs T n t u = record {
  held = x ∷ u.held;
  others = u.others;
  held_once = ((λ i. n (u.in_held x i).0), u.held_once);
  others_once = u.others_once;
  in_held = λ z. ⊎_elim (λ e. (inl e, subst T (sym e) t)) (λ i. let k = u.in_held z i in (inr k.0, k.1));
  in_others = λ z i. let k = u.in_others z i in (inr k.0, k.1);
  all_held = λ z i h. ⊎_elim (λ e. inl e) (λ j. inr (u.all_held z j h)) i;
  all_others = λ z i h. ⊎_elim (λ e. absurd (h (subst T (sym e) t))) (λ j. u.all_others z j h) i;
}

with_other : (x : ℤ) (xs : List ℤ) (T : ℤ → Type 0) → ¬ (IsIn xs x) → ¬ (T x) → IsParted xs T → IsParted (x ∷ xs) T
with_other x xs T n t u = record {
  held = u.held;
  others = x ∷ u.others;
  held_once = u.held_once;
  others_once = ((λ i. n (u.in_others x i).0), u.others_once);
  in_held = λ z i. let k = u.in_held z i in (inr k.0, k.1);
  in_others = λ z. ⊎_elim (λ e. (inl e, λ h. t (subst T e h))) (λ i. let k = u.in_others z i in (inr k.0, k.1));
  all_held = λ z i h. ⊎_elim (λ e. absurd (t (subst T e h))) (λ j. u.all_held z j h) i;
  all_others = λ z i h. ⊎_elim (λ e. inl e) (λ j. inr (u.all_others z j h)) i;
}

parted : (xs : List ℤ) (T : ℤ → Type 0) → ((z : ℤ) → T z ⊎ (¬ (T z))) → IsDistinct xs → IsParted xs T
parted [] T f d = record {
  held = [];
  others = [];
  held_once = tt;
  others_once = tt;
  in_held = λ z i. absurd i;
  in_others = λ z i. absurd i;
  all_held = λ z i h. absurd i;
  all_others = λ z i h. absurd i;
}
parted (x ∷ xs) T f d = ⊎_elim (λ t. with_held x xs T d.0 t (parted xs T f d.1)) (λ t. with_other x xs T d.0 t (parted xs T f d.1)) (f x)

-- ---- what is in one set and not in another, by what the two have in common

pub without_count : (S T : ℤ → Type 0) (a d n : ℕ) → ((z : ℤ) → T z ⊎ (¬ (T z))) → IsCountOf a S → IsCountOf d (Intersection S T) → n + d ≡ a → IsCountOf n (Without S T)
without_count S T a d n f (xs, dist, same, len) common e =
    let u = parted xs T f dist in
    let k : IsCountOf (length u.others) (Without S T) =
    (u.others, u.others_once, (λ z. ((λ (s, t). u.all_others z ((same z).0 s) t), (λ i. let j = u.in_others z i in ((same z).1 j.0, j.1)))), refl) in
    let all : IsCountOf (d + length u.others) S = IsCountOf-same (Union (Intersection S T) (Without S T)) S (d + length u.others)
    (λ z. (⊎_elim (λ h. h.0) (λ h. h.0), (λ s. ⊎_elim (λ t. inl (s, t)) (λ t. inr (s, t)) (f z))))
    (IsCountOf-apart (Intersection S T) (Without S T) d (length u.others) (λ z h w. w.1 h.1) common k) in
    let whole : IsCountOf a S = (xs, dist, same, len) in
    let q = count_is_unique S (d + length u.others) a all whole in
    let r : length u.others ≡ n = omega (arith, q, e) in
    subst (λ (m : ℕ). IsCountOf m (Without S T)) r k

pub common_at_most : (S T : ℤ → Type 0) (a d : ℕ) → IsCountOf a S → IsCountOf d (Intersection S T) → d ≤ a
common_at_most S T a d h k = count_is_monotone (Intersection S T) S d a (λ z i. i.0) k h

-- the members of one set, and those of another that are not in it
pub union_count : (S T : ℤ → Type 0) (b n : ℕ) → ((z : ℤ) → T z ⊎ (¬ (T z))) → IsCountOf b T → IsCountOf n (Without S T) → IsCountOf (b + n) (Union S T)
union_count S T b n f h k =
    IsCountOf-same (Union T (Without S T)) (Union S T) (b + n)
    (λ z. (⊎_elim (λ t. inr t) (λ w. inl w.0), ⊎_elim (λ s. ⊎_elim (λ t. inl t) (λ t. inr (s, t)) (f z)) (λ t. inl t)))
    (IsCountOf-apart T (Without S T) b n (λ z t w. w.1 t) h k)

-- a set within the range has no more members than the range
pub count_fits : (whole : ℤ × ℤ) (S : ℤ → Type 0) (n greatest : ℕ) → IsSubset S (IsBetween whole) → width_of whole ≤ greatest → IsCountOf n S → n ≤ greatest
count_fits whole S n greatest s h k = let few = count_is_monotone S (IsBetween whole) n (width_of whole) s k (IsCountOf-width_of whole) in omega arith

-- ---- a count that grows by what the first runs of two walks have in common

-- n members of S are counted, and `rest` is still to count
pub record IsCounted (n : ℕ) (rest S : ℤ → Type 0) : Type 0 where
  pub written : List (ℤ × ℤ)
  pub state : IsBuilding (pos 2) written rest S
  pub counted : IsCountOf n (Covers written)

pub counted_starts : (n : ℕ) (S : ℤ → Type 0) → n ≡ 0 → IsCounted n S S
counted_starts n S e = record {
  written = [];
  state = building_starts (pos 2) [] S refl;
  counted = subst (λ (k : ℕ). IsCountOf k (Covers [])) (sym e) (IsCountOf-none (Covers []) (λ z c. c));
}

pub counted_ends : (n : ℕ) (rest S : ℤ → Type 0) → IsCounted n rest S → HasNone rest → IsCountOf n S
counted_ends n rest S u none = IsCountOf-same (Covers u.written) S n (building_ends (pos 2) u.written rest S u.state none).members u.counted

added_part : (W : List (ℤ × ℤ)) (r : ℤ × ℤ) → IsMaximal W → IsBelow (pos 2) (Covers W) (IsBetween r) → (M : List (ℤ × ℤ)) × IsRunsOf M (Union (Covers W) (IsBetween r))
added_part W r m b = by_lt_z r.1 r.0
    (λ h. (take (length (W ++ r ∷ []) - from_bool true) (W ++ r ∷ []), written_if_filled true W r _ ((λ _. h), (λ _. refl)) m b refl))
    (λ h. (take (length (W ++ r ∷ []) - from_bool false) (W ++ r ∷ []), written_if_filled false W r _ ((λ t. absurd (true≢false (sym t))), (λ (k : r.1 <ℤ r.0). absurd (omega (arith, ints)))) m b refl))

module _ (A B : List (ℤ × ℤ)) (p q r : ℤ × ℤ) (S : ℤ → Type 0) (k n : ℕ) (e : Some p ≡ slice_get A 0) (f : Some q ≡ slice_get B 0)
    (u : IsCounted k (Intersection (Covers A) (Covers B)) S) (shared : SameMembers (IsBetween r) (Intersection (IsBetween p) (IsBetween q))) (here : IsCountOf n (IsBetween r)) where
  apart : IsBelow (pos 2) (Covers u.written) (IsBetween r)
  apart = shared_is_above u.written A B p q r S e f u.state shared

  more : (M : List (ℤ × ℤ)) × IsRunsOf M (Union (Covers u.written) (IsBetween r))
  more = added_part u.written r u.state.maximal apart

  more_count : IsCountOf (k + n) (Covers more.0)
  more_count = IsCountOf-same (Union (Covers u.written) (IsBetween r)) (Covers more.0) (k + n)
      (λ z. ((λ h. (more.1.members z).1 h), (λ c. (more.1.members z).0 c)))
      (IsCountOf-apart (Covers u.written) (IsBetween r) k n (λ z c i. let far = apart z z c i in omega (arith, ints)) u.counted here)

  pub counted_fits : (whole : ℤ × ℤ) (greatest : ℕ) → IsSubset S (IsBetween whole) → width_of whole ≤ greatest → k + n ≤ greatest
  counted_fits whole greatest s w = count_fits whole (Covers more.0) (k + n) greatest
      (λ z c. s z ((u.state.members z).1 (⊎_elim (λ (h : Covers u.written z). inl h) (λ (i : IsBetween r z). let b = (shared z).0 i in inr (first_covers A p e z b.0, first_covers B q f z b.1)) ((more.1.members z).0 c))))
      w more_count

  pub counted_next : (test : Bool) (A' B' : List (ℤ × ℤ)) → IsMaximal A → IsMaximal B → (IsTrue test ↔ (p.1 ≤ℤ q.1)) → IsTakenIf test A A' → IsTakenIf (not test) B B' →
      IsCounted (k + n) (Intersection (Covers A') (Covers B')) S
  counted_next test A' B' m o t taken other = record {
    written = more.0;
    state = common_next test u.written more.0 A B A' B' p q r S e f m o u.state shared more.1 t taken other;
    counted = more_count;
  }
