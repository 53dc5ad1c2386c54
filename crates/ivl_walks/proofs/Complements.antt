-- The numbers around the runs of a list: between two of them, below the first and above the last, and how many they are.
use Rattle.std.proofs.Common.{◌≡◌, ℕ, ◌+◌, ℤ, pos, ◌+ℤ◌, ◌-ℤ◌, ◌≤ℤ◌, List, [], ◌∷◌, ◌++◌, Some, None, inl, arith, refl, subst, sym}
use Rattle.std.proofs.lemmas.Int.{ints}
use Rattle.std.specs.Prelude.{slice_get}
use Rattle.ivl_laws.specs.Sets.{Above, Below, Complement, IsBetween, IsSubset, SameMembers, Union, Without}
use Rattle.ivl_laws.specs.Runs.{Covers, IsMaximal, IsRunListIn, IsRunsOf, StartsAfter}
use Rattle.ivl_laws.specs.Counts.{IsCountOf}
use Rattle.ivl_laws.proofs.Counts.{IsCountOf-same, count_of_complement}
use Rattle.ivl_laws.proofs.Widths.{IsCountOf-total_width, total_width}
use Rattle.ivl_laws.proofs.Runs.{lower_end, upper_end}
use Rattle.ivl_walks.proofs.MergeState.{IsBuilding, adds_above, building_below, building_same, building_starts}
use Rattle.ivl_walks.proofs.Differences.{all_left, frees, freed_below}
use Rattle.ivl_walks.proofs.Walking.{is_first}

-- R is the complement of L, whose members are a of the c numbers of the range
pub all_but : (whole all : ℤ × ℤ) (K L R : List (ℤ × ℤ)) (a c : ℕ) → K ≡ L → IsSubset (Covers L) (IsBetween whole) → SameMembers (IsBetween all) (IsBetween whole) →
    IsRunsOf R (Complement whole (Covers K)) → IsCountOf a (Covers L) → IsCountOf c (IsBetween all) → a + total_width R ≡ c
all_but whole all K L R a c e within same r members numbers =
    let P : List (ℤ × ℤ) → Type 0 = λ M. IsRunsOf R (Complement whole (Covers M)) in
    let runs = subst P e r in
    count_of_complement whole (Covers L) a (total_width R) c within members
    (IsCountOf-same (Covers R) (Complement whole (Covers L)) (total_width R) runs.members (IsCountOf-total_width R runs.maximal)) (IsCountOf-same (IsBetween all) (IsBetween whole) c same numbers)

-- ---- what lies above a value, and below another one

pub above_end : (p : ℤ × ℤ) (e : ℤ) → p.0 ≤ℤ e → SameMembers (IsBetween (e +ℤ pos 1, p.1)) (Above e (IsBetween p))
above_end p e l z = ((λ i. let low = i.0 in ((omega (arith, ints), i.1), omega (arith, ints))), (λ h. let lt = h.1 in (omega (arith, ints), h.0.1)))

pub below_start : (p : ℤ × ℤ) (s : ℤ) → s ≤ℤ p.1 → SameMembers (IsBetween (p.0, s -ℤ pos 1)) (Below s (IsBetween p))
below_start p s l z = ((λ i. let high = i.1 in ((i.0, omega (arith, ints)), omega (arith, ints))), (λ h. let lt = h.1 in (h.0.0, omega (arith, ints))))

-- what is written, and what the runs L leave of the numbers above e, make up S; a number is missing between e and L
pub record IsAround (whole : ℤ × ℤ) (written : List (ℤ × ℤ)) (e : ℤ) (L : List (ℤ × ℤ)) (S : ℤ → Type 0) : Type 0 where
  pub building : IsBuilding (pos 2) written (Without (IsBetween (e +ℤ pos 1, whole.1)) (Covers L)) S
  pub within : IsBetween whole e
  pub after : StartsAfter e L

-- below the first run of a list
pub around_starts : (whole p : ℤ × ℤ) (L : List (ℤ × ℤ)) (W W' : List (ℤ × ℤ)) (below : ℤ × ℤ) → IsRunListIn whole (p ∷ L) → W ≡ [] →
    SameMembers (IsBetween below) (Below p.0 (IsBetween whole)) → IsRunsOf W' (Union (Covers W) (IsBetween below)) →
    IsAround whole W' p.1 L (Complement whole (Covers (p ∷ L)))
around_starts whole p L W W' below i none d added = record {
  building = frees W W' (p ∷ L) L whole p below (p.1 +ℤ pos 1, whole.1) (Complement whole (Covers (p ∷ L))) i.maximal refl d
      (above_end whole p.1 (i.within p.1 (inl (upper_end p i.maximal.0))).0) (building_starts (pos 2) W (Complement whole (Covers (p ∷ L))) none) added (p, refl);
  within = i.within p.1 (inl (upper_end p i.maximal.0));
  after = i.maximal.1;
}

-- where the rest of a list starts
ends_of : (L L' : List (ℤ × ℤ)) (q : ℤ × ℤ) → Some q ≡ slice_get L 0 → (x : ℤ × ℤ) × (L ≡ x ∷ L') → IsMaximal L → StartsAfter q.1 L'
ends_of L L' q f (x, e) n =
    let first = is_first L L' q x f e in
    let m : IsMaximal (q ∷ L') = subst IsMaximal first n in
    m.1

-- between the last run and the next one
module _ (whole q : ℤ × ℤ) (e : ℤ) (W L L' : List (ℤ × ℤ)) (S : ℤ → Type 0) (a : IsAround whole W e L S) (n : IsRunListIn whole L) (f : Some q ≡ slice_get L 0) where
  first : (M : List (ℤ × ℤ)) → Some q ≡ slice_get M 0 → IsRunListIn whole M → StartsAfter e M → ((e +ℤ pos 1) ≤ℤ (q.0 -ℤ pos 1)) × (IsBetween whole q.0 × IsBetween whole q.1) × (q.0 ≤ℤ q.1)
  first [] g i s = absurd (cc)
  first (r ∷ M) g i s =
      let same : r ≡ q = cc in
      let P : ℤ × ℤ → Type 0 = λ t. ((e +ℤ pos 1) ≤ℤ (t.0 -ℤ pos 1)) × (IsBetween whole t.0 × IsBetween whole t.1) × (t.0 ≤ℤ t.1) in
      subst P same (let free = s in omega (arith, ints), (i.within r.0 (inl (lower_end r i.maximal.0)), i.within r.1 (inl (upper_end r i.maximal.0))), i.maximal.0)

  here : ((e +ℤ pos 1) ≤ℤ (q.0 -ℤ pos 1)) × (IsBetween whole q.0 × IsBetween whole q.1) × (q.0 ≤ℤ q.1)
  here = first L f n a.after

  pub after_end : IsBetween whole (e +ℤ pos 1)
  after_end = let (free, (low, high), o) = here in let w = a.within in (omega (arith, ints, w.0), omega (arith, ints, free, low.1))

  pub before_start : IsBetween whole (q.0 -ℤ pos 1)
  before_start = let (free, (low, high), o) = here in let w = a.within in (omega (arith, ints, w.0, free), omega (arith, ints, low.1))

  pub around_next : (x : ℤ × ℤ) × (L ≡ x ∷ L') → (W' : List (ℤ × ℤ)) → W' ≡ W ++ (e +ℤ pos 1, q.0 -ℤ pos 1) ∷ [] → IsAround whole W' q.1 L' S
  around_next rest W' w =
      let (free, (low, high), o) = here in
      let d = below_start (e +ℤ pos 1, whole.1) q.0 low.1 in
      let u = above_end (e +ℤ pos 1, whole.1) q.1 (omega (arith, ints, free, o)) in
      let apart = building_below (pos 2) W _ _ S a.building (freed_below L (e +ℤ pos 1, whole.1) q (e +ℤ pos 1, q.0 -ℤ pos 1) n.maximal f d) in
      let P : List (ℤ × ℤ) → Type 0 = λ M. IsRunsOf M (Union (Covers W) (IsBetween (e +ℤ pos 1, q.0 -ℤ pos 1))) in
      let added = subst P (sym w) (adds_above W (e +ℤ pos 1, q.0 -ℤ pos 1) a.building.maximal free apart).runs in
      record {
        building = frees W W' L L' (e +ℤ pos 1, whole.1) q (e +ℤ pos 1, q.0 -ℤ pos 1) (q.1 +ℤ pos 1, whole.1) S n.maximal f d u a.building added rest;
        within = high;
        after = ends_of L L' q f rest n.maximal;
      }

-- above the last run
pub around_ends : (whole all above : ℤ × ℤ) (W L : List (ℤ × ℤ)) (e : ℤ) (S : ℤ → Type 0) → IsAround whole W e L S → None ≡ slice_get L 0 → all ≡ whole →
    SameMembers (IsBetween above) (Above e (IsBetween all)) → IsBuilding (pos 2) W (IsBetween above) S
around_ends whole all above W L e S a none same m =
    let P : ℤ × ℤ → Type 0 = λ p. SameMembers (IsBetween above) (Above e (IsBetween p)) in
    let h = subst P same m in
    let rest = above_end whole e a.within.0 in
    building_same (pos 2) W (IsBetween (e +ℤ pos 1, whole.1)) (IsBetween above) S (λ z. ((λ i. (h z).1 ((rest z).0 i)), (λ i. (rest z).1 ((h z).0 i))))
    (building_same (pos 2) W (Without (IsBetween (e +ℤ pos 1, whole.1)) (Covers L)) (IsBetween (e +ℤ pos 1, whole.1)) S (all_left (e +ℤ pos 1, whole.1) L none) a.building)
