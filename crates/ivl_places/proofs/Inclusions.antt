-- Whether a list of runs lies within another, from the left: of the other, the runs that end below the end of the first run are passed by.
use Rattle.std.proofs.Common.{◌≡◌, ◌↔◌, inl, inr, ⊎_elim, Bool, false, IsTrue, ℕ, zero, suc, ℤ, pos, ◌-ℤ◌, ◌≤ℤ◌, ◌<ℤ◌, List, [], ◌∷◌, Some, None, take, drop, refl, sym, subst, ◌∙◌, arith}
use Rattle.std.proofs.lemmas.Int.{ints, by_lt_z}
use Rattle.std.specs.Prelude.{slice_get}
use Rattle.ivl_laws.specs.Sets.{AtLeast, IsBetween, IsSubset, SameMembers}
use Rattle.ivl_laws.specs.Runs.{Covers, IsMaximal}
use Rattle.ivl_laws.specs.Counts.{IsIn}
use Rattle.ivl_laws.proofs.Lengths.{free_below}
use Rattle.ivl_laws.proofs.Orders.{not_le}
use Rattle.ivl_laws.proofs.Places.{covers-drop, IsMaximal-drop, start_in}
use Rattle.ivl_laws.proofs.Runs.{covered_after, covered_from, upper_end}
use Rattle.ivl_places.specs.Places.{EndBelow}
use Rattle.ivl_walks.proofs.Intersections.{first_covers}
use Rattle.ivl_walks.proofs.Walking.{first_is_open, is_first}
use Rattle.ivl_places.proofs.Windows.{below_all, covers_split}

-- M is the list L without its first runs, which end below v
abbrev pub IsPassed : ℤ → List (ℤ × ℤ) → List (ℤ × ℤ) → Type 0
IsPassed v L M = (n : ℕ) × (M ≡ drop n L) × EndBelow v (take n L)

pub passed_none : (v : ℤ) (L : List (ℤ × ℤ)) → IsPassed v L L
passed_none v L = (0, refl, tt)

-- a run ends below a value, by a test of its end
pub end_below : (v a : ℤ) (p : ℤ × ℤ) (test : Bool) → a ≡ p.1 → (IsTrue test ↔ (v ≤ℤ a)) → test ≡ false → p.1 <ℤ v
end_below v a p test e t f = let lt = not_le v a test t f in omega (arith, ints)

-- the first run that is left is passed by too
one_more : (v : ℤ) (L N : List (ℤ × ℤ)) (n : ℕ) (p : ℤ × ℤ) → drop n L ≡ p ∷ N → p.1 <ℤ v → EndBelow v (take n L) → (N ≡ drop (suc n) L) × (EndBelow v (take (suc n) L))
one_more v [] N zero p e h b = absurd (cc)
one_more v [] N (suc n) p e h b = absurd (cc)
one_more v (q ∷ L) N zero p e h b = let same : q ≡ p = cc in (cc, (subst (λ (t : ℤ × ℤ). t.1 <ℤ v) (sym same) h, tt))
one_more v (q ∷ L) N (suc n) p e h b = let k = one_more v L N n p e h b.1 in (k.0, (b.0, k.1))

pub passed_more : (v : ℤ) (L M N : List (ℤ × ℤ)) (p : ℤ × ℤ) → Some p ≡ slice_get M 0 → (x : ℤ × ℤ) × (M ≡ x ∷ N) → p.1 <ℤ v → IsPassed v L M → IsPassed v L N
passed_more v L M N p e (x, g) h (n, same, b) = let more = one_more v L N n p (sym same ∙ is_first M N p x e g) h b in (suc n, more.0, more.1)

pub passed_same : (v : ℤ) (L M : List (ℤ × ℤ)) → IsPassed v L M → SameMembers (AtLeast v (Covers L)) (AtLeast v (Covers M))
passed_same v L M (n, same, b) = subst (λ (K : List (ℤ × ℤ)). SameMembers (AtLeast v (Covers L)) (AtLeast v (Covers K))) (sym same) (λ z. (
  (λ (c, h). (⊎_elim (λ t. let low = below_all v (take n L) z b t in absurd (omega (arith, ints))) (λ d. d) (covers_split L n z c), h)),
  (λ (d, h). (covers-drop L n z d, h)),
))

pub passed_open : (v : ℤ) (L M : List (ℤ × ℤ)) (q : ℤ × ℤ) → IsMaximal L → IsPassed v L M → Some q ≡ slice_get M 0 → q.0 ≤ℤ q.1
passed_open v L M q m (n, same, b) e = first_is_open M q e (subst IsMaximal (sym same) (IsMaximal-drop L n m))

in_dropped : (L : List (ℤ × ℤ)) (n : ℕ) (q : ℤ × ℤ) → Some q ≡ slice_get (drop n L) 0 → IsIn L q
in_dropped [] zero q e = absurd (cc)
in_dropped [] (suc n) q e = absurd (cc)
in_dropped (p ∷ L) zero q e = inl (cc)
in_dropped (p ∷ L) (suc n) q e = inr (in_dropped L n q e)

starts_first : (M : List (ℤ × ℤ)) (q : ℤ × ℤ) (z : ℤ) → IsMaximal M → Some q ≡ slice_get M 0 → Covers M z → q.0 ≤ℤ z
starts_first [] q z m e c = absurd c
starts_first (p ∷ M) q z m e c = let same : q ≡ p = cc in subst (λ (t : ℤ × ℤ). t.0 ≤ℤ z) (sym same) (covered_from p M z m c)

-- the first run that is not passed by, q, holds p, or none does
module _ (L M : List (ℤ × ℤ)) (p q : ℤ × ℤ) (l : IsMaximal L) (o : p.0 ≤ℤ p.1) (passed : IsPassed p.1 L M) (e : Some q ≡ slice_get M 0) (h : p.1 ≤ℤ q.1) where
  held : q.0 ≤ℤ p.0 → IsSubset (IsBetween p) (Covers L)
  held k z b =
      let low = b.0 in
      let high = b.1 in
      subst (λ (K : List (ℤ × ℤ)). Covers K z → Covers L z) (sym passed.1) (covers-drop L passed.0 z) (first_covers M q e z (omega (arith, ints), omega (arith, ints)))

  late : p.0 <ℤ q.0 → ¬ (IsSubset (IsBetween p) (Covers L))
  late k s = by_lt_z p.1 q.0
      (λ lt. let end = ((passed_same p.1 L M passed p.1).0 (s p.1 (upper_end p o), omega (arith, ints))).0 in
      let low = starts_first M q p.1 (subst IsMaximal (sym passed.1) (IsMaximal-drop L passed.0 l)) e end in
      omega (arith, ints))
      (λ le. free_below L q.0 l (start_in L q (in_dropped L passed.0 q (subst (λ (K : List (ℤ × ℤ)). Some q ≡ slice_get K 0) passed.1 e)))
      (s (q.0 -ℤ pos 1) (omega (arith, ints), omega (arith, ints))))

  pub held_by_first : (q.0 ≤ℤ p.0) ↔ IsSubset (IsBetween p) (Covers L)
  held_by_first = (held, (λ s. by_lt_z p.0 q.0 (λ lt. absurd (late lt s)) (λ le. le)))

-- all are passed by
pub held_by_no_more : (L M : List (ℤ × ℤ)) (p : ℤ × ℤ) → p.0 ≤ℤ p.1 → IsPassed p.1 L M → M ≡ [] → ¬ (IsSubset (IsBetween p) (Covers L))
held_by_no_more L M p o passed none s =
    subst (λ (K : List (ℤ × ℤ)). Covers K p.1) none ((passed_same p.1 L M passed p.1).0 (s p.1 (upper_end p o), omega (arith, ints))).0

-- ---- the first run of a list that has to lie within another

rest_within : (p : ℤ × ℤ) (A B B' : List (ℤ × ℤ)) → IsMaximal (p ∷ A) → IsSubset (IsBetween p) (Covers B) → SameMembers (AtLeast p.1 (Covers B)) (AtLeast p.1 (Covers B')) →
    IsSubset (Covers A) (Covers B') ↔ IsSubset (Covers (p ∷ A)) (Covers B)
rest_within p A B B' m first same = (
  (λ s z c. ⊎_elim (λ b. first z b) (λ a. let far = covered_after p.1 A z m.1 m.2 a in ((same z).1 (s z a, omega (arith, ints))).0) c),
  (λ s z a. let far = covered_after p.1 A z m.1 m.2 a in ((same z).0 (s z (inr a), omega (arith, ints))).0),
)

-- the first run lies within the other list
pub within_next : (A A' B B' : List (ℤ × ℤ)) (p : ℤ × ℤ) (S : Type 0) → IsMaximal A → Some p ≡ slice_get A 0 → (x : ℤ × ℤ) × (A ≡ x ∷ A') → IsSubset (IsBetween p) (Covers B) →
    SameMembers (AtLeast p.1 (Covers B)) (AtLeast p.1 (Covers B')) → (IsSubset (Covers A) (Covers B) ↔ S) → IsSubset (Covers A') (Covers B') ↔ S
within_next A A' B B' p S m e (x, g) first same k =
    let opened = is_first A A' p x e g in
    let step = rest_within p A' B B' (subst IsMaximal opened m) first same in
    let k' : IsSubset (Covers (p ∷ A')) (Covers B) ↔ S = subst (λ (L : List (ℤ × ℤ)). IsSubset (Covers L) (Covers B) ↔ S) opened k in
    ((λ s. k'.0 (step.0 s)), (λ s. step.1 (k'.1 s)))

-- it does not
pub within_not : (A B : List (ℤ × ℤ)) (p : ℤ × ℤ) (S : Type 0) → Some p ≡ slice_get A 0 → ¬ (IsSubset (IsBetween p) (Covers B)) → (IsSubset (Covers A) (Covers B) ↔ S) → ¬ S
within_not A B p S e n k s = n (λ z b. k.1 s z (first_covers A p e z b))

pub none_within : (A B : List (ℤ × ℤ)) → None ≡ slice_get A 0 → IsSubset (Covers A) (Covers B)
none_within [] B e = λ z c. absurd c
none_within (p ∷ A) B e = absurd (cc)
