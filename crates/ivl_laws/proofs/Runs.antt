-- Lemmas on maximal lists.
use Rattle.std.proofs.Common.{◌≡◌, inl, inr, ℤ, pos, ◌+ℤ◌, ◌≤ℤ◌, ◌<ℤ◌, List, [], ◌∷◌, refl, ap₂, sym, arith}
use Rattle.std.proofs.lemmas.Int.{ints, by_lt_z}
use mathlib.Core.HLevel.{×₃_prop, Unit-prop}
use lib.Dec.{T_prop}
use lib.Signed.{le_z, ≤ℤ_refl}
use Rattle.ivl_laws.specs.Sets.{IsBetween, SameMembers}
use Rattle.ivl_laws.specs.Runs.{Covers, StartsAfter, IsMaximal}

-- what a maximal list covers lies at or above its first lower end, and so two above whatever it starts after
pub covered_after : (u : ℤ) (L : List (ℤ × ℤ)) (z : ℤ) → StartsAfter u L → IsMaximal L → Covers L z → (u +ℤ pos 2) ≤ℤ z
covered_after u [] z s m c = absurd c
covered_after u (p ∷ L) z s m (inl b) = let low = b.0 in omega (arith, ints)
covered_after u (p ∷ L) z s m (inr c) =
    let far : (p.1 +ℤ pos 2) ≤ℤ z = covered_after p.1 L z m.1 m.2 c in
    let open_pair = m.0 in
    omega (arith, ints)

pub covered_from : (p : ℤ × ℤ) (L : List (ℤ × ℤ)) (z : ℤ) → IsMaximal (p ∷ L) → Covers (p ∷ L) z → p.0 ≤ℤ z
covered_from p L z m (inl b) = b.0
covered_from p L z m (inr c) =
    let far : (p.1 +ℤ pos 2) ≤ℤ z = covered_after p.1 L z m.1 m.2 c in
    let open_pair = m.0 in
    omega (arith, ints)

pub ≤ℤ_antisymm : (a b : ℤ) → a ≤ℤ b → b ≤ℤ a → a ≡ b
≤ℤ_antisymm a b h k = omega (arith, ints)

pub ≤ℤ_trans : (a b c : ℤ) → a ≤ℤ b → b ≤ℤ c → a ≤ℤ c
≤ℤ_trans a b c h k = omega (arith, ints)

pub lower_end : (p : ℤ × ℤ) → p.0 ≤ℤ p.1 → IsBetween p p.0
lower_end p h = (≤ℤ_refl p.0, h)

pub upper_end : (p : ℤ × ℤ) → p.0 ≤ℤ p.1 → IsBetween p p.1
upper_end p h = (h, ≤ℤ_refl p.1)

pub pair_same : (p q : ℤ × ℤ) → p.0 ≡ q.0 → p.1 ≡ q.1 → p ≡ q
pair_same p q e f = λ i. (e i, f i)

-- where one list covers what the other covers, its first run reaches at least as far
pub first_ends : (p q : ℤ × ℤ) (L M : List (ℤ × ℤ)) → IsMaximal (p ∷ L) → IsMaximal (q ∷ M) → p.0 ≡ q.0 → ((z : ℤ) → Covers (q ∷ M) z → Covers (p ∷ L) z) → q.1 ≤ℤ p.1
first_ends p q L M m n e f = by_lt_z p.1 q.1 (λ lt. absurd (gap lt (f (p.1 +ℤ pos 1) (inl (inside lt))))) (λ le. le)
  where
    inside : p.1 <ℤ q.1 → IsBetween q (p.1 +ℤ pos 1)
    inside lt = let open_pair = m.0 in (omega (arith, ints), omega (arith, ints))

    gap : p.1 <ℤ q.1 → Covers (p ∷ L) (p.1 +ℤ pos 1) → ⊥
    gap lt (inl b) = let high = b.1 in omega (arith, ints)
    gap lt (inr c) = let far = covered_after p.1 L (p.1 +ℤ pos 1) m.1 m.2 c in omega (arith, ints)

-- a number of the rest is in no first pair that ends where this one does
pub of_rest : (p q : ℤ × ℤ) (L M : List (ℤ × ℤ)) → IsMaximal (p ∷ L) → p.1 ≡ q.1 → (z : ℤ) → Covers L z → Covers (q ∷ M) z → Covers M z
of_rest p q L M m e z c (inl b) =
    let far = covered_after p.1 L z m.1 m.2 c in
    let high = b.1 in
    absurd (omega (arith, ints))
of_rest p q L M m e z c (inr d) = d

pub runs_are_unique : (L M : List (ℤ × ℤ)) → IsMaximal L → IsMaximal M → SameMembers (Covers L) (Covers M) → L ≡ M
runs_are_unique [] [] m n h = refl
runs_are_unique [] (q ∷ M) m n h = absurd ((h q.0).1 (inl (let e = n.0 in (omega (arith, ints), e))))
runs_are_unique (p ∷ L) [] m n h = absurd ((h p.0).0 (inl (let e = m.0 in (omega (arith, ints), e))))
runs_are_unique (p ∷ L) (q ∷ M) m n h =
    let start_p : Covers (p ∷ L) p.0 = inl (let e = m.0 in (omega (arith, ints), e)) in
    let start_q : Covers (q ∷ M) q.0 = inl (let e = n.0 in (omega (arith, ints), e)) in
    let starts : p.0 ≡ q.0 = ≤ℤ_antisymm p.0 q.0 (covered_from p L q.0 m ((h q.0).1 start_q)) (covered_from q M p.0 n ((h p.0).0 start_p)) in
    let ends : p.1 ≡ q.1 = ≤ℤ_antisymm p.1 q.1 (first_ends q p M L n m (sym starts) (λ z. (h z).0)) (first_ends p q L M m n starts (λ z. (h z).1)) in
    let rest : L ≡ M = runs_are_unique L M m.2 n.2 (λ z. ((λ c. of_rest p q L M m ends z c ((h z).0 (inr c))), (λ c. of_rest q p M L n (sym ends) z c ((h z).1 (inr c))))) in
    ap₂ (λ r R. r ∷ R) (pair_same p q starts ends) rest

-- that a list is maximal has one proof at most
pub ≤ℤ_prop : (a b : ℤ) → IsProp (a ≤ℤ b)
≤ℤ_prop a b h k = λ i. record { le = T_prop (le_z a b) h.le k.le i }

pub StartsAfter_prop : (u : ℤ) (L : List (ℤ × ℤ)) → IsProp (StartsAfter u L)
StartsAfter_prop u [] = Unit-prop
StartsAfter_prop u (p ∷ L) = ≤ℤ_prop (u +ℤ pos 2) p.0

pub IsMaximal-prop : (L : List (ℤ × ℤ)) → IsProp (IsMaximal L)
IsMaximal-prop [] = Unit-prop
IsMaximal-prop (p ∷ L) = ×₃_prop (≤ℤ_prop p.0 p.1) (StartsAfter_prop p.1 L) (IsMaximal-prop L)
