-- What one of two lists has and the other has not, from the left.
use Rattle.std.proofs.Common.{◌≡◌, inl, inr, ⊎_elim, ℤ, pos, ◌<ℤ◌, List, ◌∷◌, arith}
use Rattle.std.proofs.lemmas.Int.{ints, by_lt_z}
use Rattle.ivl_laws.specs.Sets.{Above, Below, IsBetween, IsSubset, SameMembers, SymmetricDifference, Union}
use Rattle.ivl_laws.specs.Runs.{Covers, IsMaximal}
use Rattle.ivl_laws.proofs.Runs.{covered_after, covered_from}
use Rattle.ivl_walks.specs.Order.{IsBelow}

-- what each of two runs has below the start of the other
abbrev pub LowerPart : ℤ × ℤ → ℤ × ℤ → ℤ → Type 0
LowerPart p q = Union (Below q.0 (IsBetween p)) (Below p.0 (IsBetween q))

module _ (p q : ℤ × ℤ) (A B : List (ℤ × ℤ)) (m : IsMaximal (p ∷ A)) (n : IsMaximal (q ∷ B)) where
  free_of : (z : ℤ) → z <ℤ q.0 → ¬ (Covers (q ∷ B) z)
  free_of z lt c = let low = covered_from q B z n c in omega (arith, ints)

  free_of_first : (z : ℤ) → z <ℤ p.0 → ¬ (Covers (p ∷ A) z)
  free_of_first z lt c = let low = covered_from p A z m c in omega (arith, ints)

  pub lower_part_is_alone : IsSubset (LowerPart p q) (SymmetricDifference (Covers (p ∷ A)) (Covers (q ∷ B)))
  lower_part_is_alone z (inl (i, lt)) = inl (inl i, free_of z lt)
  lower_part_is_alone z (inr (i, lt)) = inr (inl i, free_of_first z lt)

  -- both runs end together
  module _ (h : p.1 ≡ q.1) where
    both_there : (z : ℤ) → SymmetricDifference (Covers (p ∷ A)) (Covers (q ∷ B)) z → Union (LowerPart p q) (SymmetricDifference (Covers A) (Covers B)) z
    both_there z (inl (inl i, f)) = by_lt_z z q.0 (λ lt. inl (inl (i, lt))) (λ le. let high = i.1 in absurd (f (inl (le, omega (arith, ints)))))
    both_there z (inl (inr c, f)) = inr (inl (c, λ b. f (inr b)))
    both_there z (inr (inl i, f)) = by_lt_z z p.0 (λ lt. inl (inr (i, lt))) (λ le. let high = i.1 in absurd (f (inl (le, omega (arith, ints)))))
    both_there z (inr (inr c, f)) = inr (inr (c, λ a. f (inr a)))

    both_back : (z : ℤ) → Union (LowerPart p q) (SymmetricDifference (Covers A) (Covers B)) z → SymmetricDifference (Covers (p ∷ A)) (Covers (q ∷ B)) z
    both_back z (inl l) = lower_part_is_alone z l
    both_back z (inr (inl (c, f))) = let far = covered_after p.1 A z m.1 m.2 c in inl (inr c, ⊎_elim (λ i. let high = i.1 in omega (arith, ints)) f)
    both_back z (inr (inr (c, f))) = let far = covered_after q.1 B z n.1 n.2 c in inr (inr c, ⊎_elim (λ i. let high = i.1 in omega (arith, ints)) f)

    pub both_done : SameMembers (SymmetricDifference (Covers (p ∷ A)) (Covers (q ∷ B))) (Union (LowerPart p q) (SymmetricDifference (Covers A) (Covers B)))
    both_done z = (both_there z, both_back z)

    far_off : (y : ℤ) → SymmetricDifference (Covers A) (Covers B) y → p.1 <ℤ y
    far_off y (inl (c, f)) = let far = covered_after p.1 A y m.1 m.2 c in omega (arith, ints)
    far_off y (inr (c, f)) = let far = covered_after q.1 B y n.1 n.2 c in omega (arith, ints)

    pub both_done_below : IsBelow (pos 1) (LowerPart p q) (SymmetricDifference (Covers A) (Covers B))
    both_done_below x y (inl (i, lt)) s = let high = i.1 in let far = far_off y s in omega (arith, ints)
    both_done_below x y (inr (i, lt)) s = let high = i.1 in let far = far_off y s in omega (arith, ints)

  -- the first list's run ends below the end of the second's, of which `above` is left
  module _ (above : ℤ × ℤ) (h : p.1 <ℤ q.1) (a : SameMembers (IsBetween above) (Above p.1 (IsBetween q))) where
    past : (z : ℤ) → Covers (above ∷ B) z → p.1 <ℤ z
    past z (inl i) = ((a z).0 i).1
    past z (inr c) = let far = covered_after q.1 B z n.1 n.2 c in omega (arith, ints)

    within : (z : ℤ) → Covers (above ∷ B) z → Covers (q ∷ B) z
    within z (inl i) = inl ((a z).0 i).0
    within z (inr c) = inr c

    one_there : (z : ℤ) → SymmetricDifference (Covers (p ∷ A)) (Covers (q ∷ B)) z → Union (LowerPart p q) (SymmetricDifference (Covers A) (Covers (above ∷ B))) z
    one_there z (inl (inl i, f)) = by_lt_z z q.0 (λ lt. inl (inl (i, lt))) (λ le. let high = i.1 in absurd (f (inl (le, omega (arith, ints)))))
    one_there z (inl (inr c, f)) = inr (inl (c, λ b. f (within z b)))
    one_there z (inr (inl i, f)) = by_lt_z z p.0
        (λ lt. inl (inr (i, lt)))
        (λ le. by_lt_z p.1 z (λ lt. inr (inr (inl ((a z).1 (i, lt)), λ c. f (inr c)))) (λ high. absurd (f (inl (le, high)))))
    one_there z (inr (inr c, f)) = inr (inr (inr c, λ b. f (inr b)))

    one_back : (z : ℤ) → Union (LowerPart p q) (SymmetricDifference (Covers A) (Covers (above ∷ B))) z → SymmetricDifference (Covers (p ∷ A)) (Covers (q ∷ B)) z
    one_back z (inl l) = lower_part_is_alone z l
    one_back z (inr (inl (c, f))) =
        let far = covered_after p.1 A z m.1 m.2 c in
        inl (inr c, ⊎_elim (λ i. let lt : p.1 <ℤ z = omega (arith, ints) in f (inl ((a z).1 (i, lt)))) (λ b. f (inr b)))
    one_back z (inr (inr (c, f))) = let low = past z c in inr (within z c, ⊎_elim (λ i. let high = i.1 in omega (arith, ints)) f)

    pub one_done : SameMembers (SymmetricDifference (Covers (p ∷ A)) (Covers (q ∷ B))) (Union (LowerPart p q) (SymmetricDifference (Covers A) (Covers (above ∷ B))))
    one_done z = (one_there z, one_back z)

    beyond : (y : ℤ) → SymmetricDifference (Covers A) (Covers (above ∷ B)) y → p.1 <ℤ y
    beyond y (inl (c, f)) = let far = covered_after p.1 A y m.1 m.2 c in omega (arith, ints)
    beyond y (inr (c, f)) = past y c

    pub one_done_below : IsBelow (pos 1) (LowerPart p q) (SymmetricDifference (Covers A) (Covers (above ∷ B)))
    one_done_below x y (inl (i, lt)) s = let high = i.1 in let far = beyond y s in omega (arith, ints)
    one_done_below x y (inr (i, lt)) s = let far = beyond y s in let o = m.0 in omega (arith, ints)

pub turned : (S T : ℤ → Type 0) → SameMembers (SymmetricDifference S T) (SymmetricDifference T S)
turned S T z = (⊎_elim (λ s. inr s) (λ t. inl t), ⊎_elim (λ t. inr t) (λ s. inl s))
