-- What two lists of runs have in common, from the left: of their first runs, the one that ends first is done.
use Rattle.std.proofs.Common.{◌≡◌, ◌↔◌, inl, inr, ⊎_elim, Bool, true, false, IsTrue, ℤ, pos, ◌≤ℤ◌, ◌<ℤ◌, List, [], ◌∷◌, Some, None, refl, sym, subst, arith}
use Rattle.std.proofs.lemmas.Int.{ints, clamps, by_lt_z}
use Rattle.std.specs.Int.{int_max}
use Rattle.std.specs.Prelude.{not, slice_get}
use Rattle.ivl_laws.specs.Sets.{HasNone, HasSome, IsBetween, IsSubset, Intersection, SameMembers, Union}
use Rattle.ivl_laws.specs.Runs.{Covers, IsMaximal, IsRunsOf}
use Rattle.ivl_laws.proofs.Adding.{untrue}
use Rattle.ivl_laws.proofs.Runs.{covered_after, covered_from}
use Rattle.ivl_walks.specs.HeldRun.{IsTakenIf}
use Rattle.ivl_walks.specs.Order.{IsBelow}
use Rattle.ivl_walks.proofs.MergeState.{IsBuilding, building_below, building_same, building_takes}
use Rattle.ivl_walks.proofs.Walking.{is_first}

-- the first run of a list is among what the list covers
pub first_covers : (L : List (ℤ × ℤ)) (p : ℤ × ℤ) → Some p ≡ slice_get L 0 → IsSubset (IsBetween p) (Covers L)
first_covers [] p e z i = absurd (cc)
first_covers (q ∷ L) p e z i = let same : p ≡ q = cc in inl (subst (λ (t : ℤ × ℤ). IsBetween t z) same i)

module _ (p q r : ℤ × ℤ) (A B : List (ℤ × ℤ)) (m : IsMaximal (p ∷ A)) (n : IsMaximal (q ∷ B)) (h : p.1 ≤ℤ q.1)
    (e : SameMembers (IsBetween r) (Intersection (IsBetween p) (IsBetween q))) where
  there : (z : ℤ) → Intersection (Covers (p ∷ A)) (Covers (q ∷ B)) z → Union (IsBetween r) (Intersection (Covers A) (Covers (q ∷ B))) z
  there z (inl b, inl c) = inl ((e z).1 (b, c))
  there z (inl b, inr c) = let far = covered_after q.1 B z n.1 n.2 c in let high = b.1 in absurd (omega (arith, ints))
  there z (inr b, c) = inr (b, c)

  back : (z : ℤ) → Union (IsBetween r) (Intersection (Covers A) (Covers (q ∷ B))) z → Intersection (Covers (p ∷ A)) (Covers (q ∷ B)) z
  back z (inl i) = let (x, y) = (e z).0 i in (inl x, inl y)
  back z (inr (b, c)) = (inr b, c)

  meeting_parts : SameMembers (Intersection (Covers (p ∷ A)) (Covers (q ∷ B))) (Union (IsBetween r) (Intersection (Covers A) (Covers (q ∷ B))))
  meeting_parts z = (there z, back z)

  meeting_below : IsBelow (pos 2) (IsBetween r) (Intersection (Covers A) (Covers (q ∷ B)))
  meeting_below x y i c = let high = ((e x).0 i).0.1 in let far = covered_after p.1 A y m.1 m.2 c.0 in omega (arith, ints)

pub turned : (S T : ℤ → Type 0) → SameMembers (Intersection S T) (Intersection T S)
turned S T z = ((λ (s, t). (t, s)), (λ (t, s). (s, t)))

-- ---- the same, where the first runs of two lists are read, and the one that ends first is taken

opens : (L : List (ℤ × ℤ)) (p : ℤ × ℤ) → Some p ≡ slice_get L 0 → (rest : List (ℤ × ℤ)) × (L ≡ p ∷ rest)
opens [] p e = absurd (cc)
opens (x ∷ L) p e = (L, (cc))

pub shared_is_above : (W A B : List (ℤ × ℤ)) (p q r : ℤ × ℤ) (S : ℤ → Type 0) → Some p ≡ slice_get A 0 → Some q ≡ slice_get B 0 →
    IsBuilding (pos 2) W (Intersection (Covers A) (Covers B)) S → SameMembers (IsBetween r) (Intersection (IsBetween p) (IsBetween q)) → IsBelow (pos 2) (Covers W) (IsBetween r)
shared_is_above W A B p q r S e f u shared =
    building_below (pos 2) W (Intersection (Covers A) (Covers B)) (IsBetween r) S u (λ z i. let (x, y) = (shared z).0 i in (first_covers A p e z x, first_covers B q f z y))

common_first : (W W' A B A' : List (ℤ × ℤ)) (p q r : ℤ × ℤ) (S : ℤ → Type 0) → Some p ≡ slice_get A 0 → Some q ≡ slice_get B 0 → IsMaximal A → IsMaximal B →
    IsBuilding (pos 2) W (Intersection (Covers A) (Covers B)) S → SameMembers (IsBetween r) (Intersection (IsBetween p) (IsBetween q)) → IsRunsOf W' (Union (Covers W) (IsBetween r)) →
    (x : ℤ × ℤ) × (A ≡ x ∷ A') → p.1 ≤ℤ q.1 → IsBuilding (pos 2) W' (Intersection (Covers A') (Covers B)) S
common_first W W' A B A' p q r S e f m n u shared added (x, g) h =
    let first = is_first A A' p x e g in
    let (rest, second) = opens B q f in
    let mm : IsMaximal (p ∷ A') = subst IsMaximal first m in
    let nn : IsMaximal (q ∷ rest) = subst IsMaximal second n in
    let uu : IsBuilding (pos 2) W (Intersection (Covers (p ∷ A')) (Covers (q ∷ rest))) S =
    subst (λ (L : List (ℤ × ℤ)). IsBuilding (pos 2) W (Intersection (Covers (p ∷ A')) (Covers L)) S) second
    (subst (λ (L : List (ℤ × ℤ)). IsBuilding (pos 2) W (Intersection (Covers L) (Covers B)) S) first u) in
    subst (λ (L : List (ℤ × ℤ)). IsBuilding (pos 2) W' (Intersection (Covers A') (Covers L)) S) (sym second)
    (building_takes (pos 2) W W' _ (IsBetween r) _ S uu (meeting_parts p q r A' rest mm nn h shared) (meeting_below p q r A' rest mm nn h shared) added)

-- by the test which of the two ends first
pub common_next : (test : Bool) (W W' A B A' B' : List (ℤ × ℤ)) (p q r : ℤ × ℤ) (S : ℤ → Type 0) → Some p ≡ slice_get A 0 → Some q ≡ slice_get B 0 → IsMaximal A → IsMaximal B →
    IsBuilding (pos 2) W (Intersection (Covers A) (Covers B)) S → SameMembers (IsBetween r) (Intersection (IsBetween p) (IsBetween q)) → IsRunsOf W' (Union (Covers W) (IsBetween r)) →
    (IsTrue test ↔ (p.1 ≤ℤ q.1)) → IsTakenIf test A A' → IsTakenIf (not test) B B' → IsBuilding (pos 2) W' (Intersection (Covers A') (Covers B')) S
common_next true W W' A B A' B' p q r S e f m n u shared added t taken kept =
    subst (λ (L : List (ℤ × ℤ)). IsBuilding (pos 2) W' (Intersection (Covers A') (Covers L)) S) (sym kept)
    (common_first W W' A B A' p q r S e f m n u shared added taken (t.0 refl))
common_next false W W' A B A' B' p q r S e f m n u shared added t kept taken =
    let below : q.1 ≤ℤ p.1 = by_lt_z q.1 p.1 (λ lt. omega (arith, ints)) (λ le. absurd (untrue false refl t le)) in
    let other = common_first W W' B A B' q p r S f e n m
    (building_same (pos 2) W _ _ S (turned (Covers A) (Covers B)) u) (λ z. ((λ i. let (x, y) = (shared z).0 i in (y, x)), (λ (y, x). (shared z).1 (x, y)))) added taken below in
    subst (λ (L : List (ℤ × ℤ)). IsBuilding (pos 2) W' (Intersection (Covers L) (Covers B')) S) (sym kept)
    (building_same (pos 2) W' _ _ S (turned (Covers B') (Covers A)) other)

-- two values whose numbers are ends of two runs
pub ends_by : (x y a b : ℤ) → x ≡ a → y ≡ b → x ≤ℤ y → a ≤ℤ b
ends_by x y a b e f h = omega (arith, ints)

pub ends_before : (x y a b : ℤ) → x ≡ a → y ≡ b → x <ℤ y → a <ℤ b
ends_before x y a b e f h = omega (arith, ints)

-- ---- a list that has nothing left

pub none_first : (A B : List (ℤ × ℤ)) → None ≡ slice_get A 0 → HasNone (Intersection (Covers A) (Covers B))
none_first [] B e z (a, b) = a
none_first (p ∷ A) B e z i = absurd (cc)

pub none_second : (A B : List (ℤ × ℤ)) → None ≡ slice_get B 0 → HasNone (Intersection (Covers A) (Covers B))
none_second A [] e z (a, b) = b
none_second A (p ∷ B) e z i = absurd (cc)

-- ---- two lists whose first runs lie apart, or meet

drops : (p q : ℤ × ℤ) (A B : List (ℤ × ℤ)) → IsMaximal (q ∷ B) → p.1 <ℤ q.0 → SameMembers (Intersection (Covers A) (Covers (q ∷ B))) (Intersection (Covers (p ∷ A)) (Covers (q ∷ B)))
drops p q A B n h z = (
  (λ (a, b). (inr a, b)),
  (λ (a, b). (⊎_elim (λ i. let high = i.1 in let low = covered_from q B z n b in absurd (omega (arith, ints))) (λ c. c) a, b)),
)

-- a first run that ends below the other one
pub drops_first : (A A' B : List (ℤ × ℤ)) (p q : ℤ × ℤ) → IsMaximal B → Some p ≡ slice_get A 0 → Some q ≡ slice_get B 0 → (x : ℤ × ℤ) × (A ≡ x ∷ A') → p.1 <ℤ q.0 →
    SameMembers (Intersection (Covers A') (Covers B)) (Intersection (Covers A) (Covers B))
drops_first A A' [] p q n e f left h = absurd (cc)
drops_first A A' (y ∷ B) p q n e f (x, g) h =
    let same : q ≡ y = cc in
    let low : p.1 <ℤ y.0 = subst (λ (t : ℤ × ℤ). p.1 <ℤ t.0) same h in
    subst (λ (L : List (ℤ × ℤ)). SameMembers (Intersection (Covers A') (Covers (y ∷ B))) (Intersection (Covers L) (Covers (y ∷ B)))) (sym (is_first A A' p x e g))
    (drops p y A' B n low)

pub drops_second : (A B B' : List (ℤ × ℤ)) (p q : ℤ × ℤ) → IsMaximal A → Some p ≡ slice_get A 0 → Some q ≡ slice_get B 0 → (x : ℤ × ℤ) × (B ≡ x ∷ B') → q.1 <ℤ p.0 →
    SameMembers (Intersection (Covers A) (Covers B')) (Intersection (Covers A) (Covers B))
drops_second A B B' p q m e f left h z =
    let same = drops_first B B' A q p m f e left h z in
    ((λ (a, b). let (y, x) = same.0 (b, a) in (x, y)), (λ (a, b). let (y, x) = same.1 (b, a) in (x, y)))

-- neither ends below the other
pub meet_here : (A B : List (ℤ × ℤ)) (p q : ℤ × ℤ) → Some p ≡ slice_get A 0 → Some q ≡ slice_get B 0 → p.0 ≤ℤ p.1 → q.0 ≤ℤ q.1 → q.0 ≤ℤ p.1 → p.0 ≤ℤ q.1 →
    HasSome (Intersection (Covers A) (Covers B))
meet_here A B p q e f o o' h k =
    let v = int_max p.0 q.0 in
    (v, (first_covers A p e v (omega (arith, ints, clamps), omega (arith, ints, clamps)), first_covers B q f v (omega (arith, ints, clamps), omega (arith, ints, clamps))))

pub has_some_same : (S T : ℤ → Type 0) → SameMembers S T → HasSome S → HasSome T
has_some_same S T e (z, s) = (z, (e z).0 s)

pub has_none_same : (S T : ℤ → Type 0) → SameMembers S T → HasNone S → ¬ (HasSome T)
has_none_same S T e n (z, t) = n z ((e z).1 t)
