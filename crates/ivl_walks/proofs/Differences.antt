-- What a list of runs leaves of an interval or of another list, from the left.
use Rattle.std.proofs.Common.{◌≡◌, inl, inr, ⊎_elim, ℤ, pos, ◌≤ℤ◌, ◌<ℤ◌, List, [], ◌∷◌, Option, Some, None, sym, subst, arith}
use Rattle.std.proofs.lemmas.Int.{ints, by_lt_z}
use Rattle.std.specs.Prelude.{slice_get}
use Rattle.ivl_laws.specs.Sets.{Above, Below, IsBetween, IsSubset, SameMembers, Union, Without}
use Rattle.ivl_laws.specs.Runs.{Covers, IsMaximal, IsRunsOf, StartsAfter}
use Rattle.ivl_laws.proofs.Runs.{covered_after, covered_from, upper_end}
use Rattle.ivl_walks.specs.HeldRun.{led_by}
use Rattle.ivl_walks.specs.Order.{IsBelow}
use Rattle.ivl_walks.proofs.MergeState.{IsBuilding, building_below, building_takes}
use Rattle.ivl_walks.proofs.HeldRun.{IsLed, leads, open_held}
use Rattle.ivl_walks.proofs.Walking.{is_first}

-- ---- an interval without the runs of a list

-- below is what of p lies below the first run, and above what lies above it
module _ (p q below above : ℤ × ℤ) (B : List (ℤ × ℤ)) (n : IsMaximal (q ∷ B))
    (d : SameMembers (IsBetween below) (Below q.0 (IsBetween p))) (a : SameMembers (IsBetween above) (Above q.1 (IsBetween p))) where
  there : (z : ℤ) → Without (IsBetween p) (Covers (q ∷ B)) z → Union (IsBetween below) (Without (IsBetween above) (Covers B)) z
  there z (i, f) = by_lt_z z q.0
      (λ lt. inl ((d z).1 (i, lt)))
      (λ le. by_lt_z q.1 z
      (λ lt. inr ((a z).1 (i, lt), λ c. f (inr c)))
      (λ high. absurd (f (inl (le, high)))))

  back : (z : ℤ) → Union (IsBetween below) (Without (IsBetween above) (Covers B)) z → Without (IsBetween p) (Covers (q ∷ B)) z
  back z (inl i) = let (x, lt) = (d z).0 i in (x, λ c. let low = covered_from q B z n c in omega (arith, ints))
  back z (inr (i, f)) = let (x, lt) = (a z).0 i in (x, ⊎_elim (λ b. let high = b.1 in omega (arith, ints)) f)

  pub parts_of_one : SameMembers (Without (IsBetween p) (Covers (q ∷ B))) (Union (IsBetween below) (Without (IsBetween above) (Covers B)))
  parts_of_one z = (there z, back z)

  pub parts_apart : IsBelow (pos 2) (IsBetween below) (Without (IsBetween above) (Covers B))
  parts_apart x y i j = let low = ((d x).0 i).1 in let high = ((a y).0 j.0).1 in let o = n.0 in omega (arith, ints)

-- what lies below the first run is left
pub freed_below : (B : List (ℤ × ℤ)) (p q below : ℤ × ℤ) → IsMaximal B → Some q ≡ slice_get B 0 → SameMembers (IsBetween below) (Below q.0 (IsBetween p)) →
    IsSubset (IsBetween below) (Without (IsBetween p) (Covers B))
freed_below [] p q below n f d z i = absurd (cc)
freed_below (y ∷ B) p q below n f d z i =
    let same : q ≡ y = cc in
    let (x, lt) = (d z).0 i in
    let low : z <ℤ y.0 = subst (λ (t : ℤ × ℤ). z <ℤ t.0) same lt in
    (x, λ c. let from = covered_from y B z n c in omega (arith, ints))

-- the first run takes its numbers from the interval
pub frees : (W W' B B' : List (ℤ × ℤ)) (p q below above : ℤ × ℤ) (S : ℤ → Type 0) → IsMaximal B → Some q ≡ slice_get B 0 →
    SameMembers (IsBetween below) (Below q.0 (IsBetween p)) → SameMembers (IsBetween above) (Above q.1 (IsBetween p)) →
    IsBuilding (pos 2) W (Without (IsBetween p) (Covers B)) S → IsRunsOf W' (Union (Covers W) (IsBetween below)) → (x : ℤ × ℤ) × (B ≡ x ∷ B') →
    IsBuilding (pos 2) W' (Without (IsBetween above) (Covers B')) S
frees W W' B B' p q below above S n f d a u added (x, e) =
    let first = is_first B B' q x f e in
    let nn : IsMaximal (q ∷ B') = subst IsMaximal first n in
    let uu : IsBuilding (pos 2) W (Without (IsBetween p) (Covers (q ∷ B'))) S = subst (λ (L : List (ℤ × ℤ)). IsBuilding (pos 2) W (Without (IsBetween p) (Covers L)) S) first u in
    building_takes (pos 2) W W' _ (IsBetween below) _ S uu (parts_of_one p q below above B' nn d a) (parts_apart p q below above B' nn d a) added

-- where no run is left, all of the interval is
pub all_left : (p : ℤ × ℤ) (B : List (ℤ × ℤ)) → None ≡ slice_get B 0 → SameMembers (Without (IsBetween p) (Covers B)) (IsBetween p)
all_left p [] e z = ((λ w. w.0), (λ i. (i, λ c. c)))
all_left p (q ∷ B) e z = absurd (cc)

-- ---- a list without another one, where p and q are the first runs

-- what is left of a run above one that ends before it
pub record IsCutAbove (p above : ℤ × ℤ) (v : ℤ) : Type 0 where
  pub filled : above.0 ≤ℤ above.1
  pub upper : above.1 ≡ p.1

pub is_cut_above : (p above : ℤ × ℤ) (v : ℤ) → p.0 ≤ℤ p.1 → v <ℤ p.1 → SameMembers (IsBetween above) (Above v (IsBetween p)) → IsCutAbove p above v
is_cut_above p above v o h a =
    let end = (a p.1).1 (upper_end p o, h) in
    let low = end.0 in
    let high = end.1 in
    let open_pair : above.0 ≤ℤ above.1 = omega (arith, ints) in
    let back = ((a above.1).0 (upper_end above open_pair)).0.1 in
    record { filled = open_pair; upper = omega (arith, ints) }

pub cut_maximal : (p above : ℤ × ℤ) (v : ℤ) (A : List (ℤ × ℤ)) → IsMaximal (p ∷ A) → v <ℤ p.1 → SameMembers (IsBetween above) (Above v (IsBetween p)) → IsMaximal (above ∷ A)
cut_maximal p above v A m h a =
    let c = is_cut_above p above v m.0 h a in
    (c.filled, subst (λ (t : ℤ). StartsAfter t A) (sym c.upper) m.1, m.2)

module _ (p q below : ℤ × ℤ) (A B : List (ℤ × ℤ)) (m : IsMaximal (p ∷ A)) (n : IsMaximal (q ∷ B))
    (d : SameMembers (IsBetween below) (Below q.0 (IsBetween p))) where
  not_below : (z : ℤ) → z <ℤ q.0 → ¬ (Covers (q ∷ B) z)
  not_below z lt c = let low = covered_from q B z n c in omega (arith, ints)

  pub below_is_left : IsSubset (IsBetween below) (Without (Covers (p ∷ A)) (Covers (q ∷ B)))
  below_is_left z i = let (x, lt) = (d z).0 i in (inl x, not_below z lt)

  -- the first list's run ends no higher than the second's
  module _ (h : p.1 ≤ℤ q.1) where
    first_there : (z : ℤ) → Without (Covers (p ∷ A)) (Covers (q ∷ B)) z → Union (IsBetween below) (Without (Covers A) (Covers (q ∷ B))) z
    first_there z (inl i, f) = by_lt_z z q.0 (λ lt. inl ((d z).1 (i, lt))) (λ le. let high = i.1 in absurd (f (inl (le, omega (arith, ints)))))
    first_there z (inr c, f) = inr (c, f)

    first_back : (z : ℤ) → Union (IsBetween below) (Without (Covers A) (Covers (q ∷ B))) z → Without (Covers (p ∷ A)) (Covers (q ∷ B)) z
    first_back z (inl i) = below_is_left z i
    first_back z (inr (c, f)) = (inr c, f)

    pub first_done : SameMembers (Without (Covers (p ∷ A)) (Covers (q ∷ B))) (Union (IsBetween below) (Without (Covers A) (Covers (q ∷ B))))
    first_done z = (first_there z, first_back z)

    pub first_done_below : IsBelow (pos 2) (IsBetween below) (Without (Covers A) (Covers (q ∷ B)))
    first_done_below x y i j = let high = ((d x).0 i).0.1 in let far = covered_after p.1 A y m.1 m.2 j.0 in omega (arith, ints)

  -- the second list's run ends below the end of the first's, of which `above` is left
  module _ (above : ℤ × ℤ) (h : q.1 <ℤ p.1) (a : SameMembers (IsBetween above) (Above q.1 (IsBetween p))) where
    past : (z : ℤ) → Covers (above ∷ A) z → q.1 <ℤ z
    past z (inl i) = ((a z).0 i).1
    past z (inr c) = let far = covered_after p.1 A z m.1 m.2 c in omega (arith, ints)

    within : (z : ℤ) → Covers (above ∷ A) z → Covers (p ∷ A) z
    within z (inl i) = inl ((a z).0 i).0
    within z (inr c) = inr c

    second_there : (z : ℤ) → Without (Covers (p ∷ A)) (Covers (q ∷ B)) z → Union (IsBetween below) (Without (Covers (above ∷ A)) (Covers B)) z
    second_there z (inl i, f) = by_lt_z z q.0
        (λ lt. inl ((d z).1 (i, lt)))
        (λ le. by_lt_z q.1 z
        (λ lt. inr (inl ((a z).1 (i, lt)), λ c. f (inr c)))
        (λ high. absurd (f (inl (le, high)))))
    second_there z (inr c, f) = inr (inr c, λ b. f (inr b))

    second_back : (z : ℤ) → Union (IsBetween below) (Without (Covers (above ∷ A)) (Covers B)) z → Without (Covers (p ∷ A)) (Covers (q ∷ B)) z
    second_back z (inl i) = below_is_left z i
    second_back z (inr (c, f)) = (within z c, ⊎_elim (λ b. let high = b.1 in let low = past z c in omega (arith, ints)) f)

    pub second_done : SameMembers (Without (Covers (p ∷ A)) (Covers (q ∷ B))) (Union (IsBetween below) (Without (Covers (above ∷ A)) (Covers B)))
    second_done z = (second_there z, second_back z)

    pub second_done_below : IsBelow (pos 2) (IsBetween below) (Without (Covers (above ∷ A)) (Covers B))
    second_done_below x y i j = let low = ((d x).0 i).1 in let high = past y j.0 in let o = n.0 in omega (arith, ints)

-- ---- the same, where the two first runs are held

-- what is still to write
abbrev pub rest_without : Option (ℤ × ℤ) → List (ℤ × ℤ) → Option (ℤ × ℤ) → List (ℤ × ℤ) → ℤ → Type 0
rest_without a A b B = Without (Covers (led_by a A)) (Covers (led_by b B))

module _ (W : List (ℤ × ℤ)) (a b : Option (ℤ × ℤ)) (A B : List (ℤ × ℤ)) (p q below : ℤ × ℤ) (S : ℤ → Type 0) (e : a ≡ Some p) (f : b ≡ Some q)
    (l : IsLed a A) (r : IsLed b B) (u : IsBuilding (pos 2) W (rest_without a A b B) S) (d : SameMembers (IsBetween below) (Below q.0 (IsBetween p))) where
  m : IsMaximal (p ∷ A)
  m = open_held a p A l e

  n : IsMaximal (q ∷ B)
  n = open_held b q B r f

  opened : IsBuilding (pos 2) W (Without (Covers (p ∷ A)) (Covers (q ∷ B))) S
  opened = subst (λ (L : List (ℤ × ℤ)). IsBuilding (pos 2) W (Without (Covers (p ∷ A)) (Covers L)) S) (leads b q B f)
      (subst (λ (L : List (ℤ × ℤ)). IsBuilding (pos 2) W (Without (Covers L) (Covers (led_by b B))) S) (leads a p A e) u)

  pub part_is_above : IsBelow (pos 2) (Covers W) (IsBetween below)
  part_is_above = building_below (pos 2) W _ _ S opened (below_is_left p q below A B m n d)

  module _ (W' : List (ℤ × ℤ)) (added : IsRunsOf W' (Union (Covers W) (IsBetween below))) where
    pub parts_first : (a' : Option (ℤ × ℤ)) (A' : List (ℤ × ℤ)) → A ≡ led_by a' A' → p.1 ≤ℤ q.1 → IsBuilding (pos 2) W' (rest_without a' A' b B) S
    parts_first a' A' t h =
        let next = building_takes (pos 2) W W' _ (IsBetween below) _ S opened (first_done p q below A B m n d h) (first_done_below p q below A B m n d h) added in
        subst (λ (L : List (ℤ × ℤ)). IsBuilding (pos 2) W' (Without (Covers L) (Covers (led_by b B))) S) t
        (subst (λ (L : List (ℤ × ℤ)). IsBuilding (pos 2) W' (Without (Covers A) (Covers L)) S) (sym (leads b q B f)) next)

    pub parts_second : (above : ℤ × ℤ) (b' : Option (ℤ × ℤ)) (B' : List (ℤ × ℤ)) → B ≡ led_by b' B' → q.1 <ℤ p.1 → SameMembers (IsBetween above) (Above q.1 (IsBetween p)) →
        IsBuilding (pos 2) W' (rest_without (Some above) A b' B') S
    parts_second above b' B' t h s =
        let next = building_takes (pos 2) W W' _ (IsBetween below) _ S opened (second_done p q below A B m n d above h s) (second_done_below p q below A B m n d above h s) added in
        subst (λ (L : List (ℤ × ℤ)). IsBuilding (pos 2) W' (Without (Covers (above ∷ A)) (Covers L)) S) t next
