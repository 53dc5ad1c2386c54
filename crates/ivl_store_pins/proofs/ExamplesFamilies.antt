-- Examples of solutions, and of families that constraints support.
use Rattle.std.proofs.Common.{◌≡◌, ℕ, zero, suc, inl, inr, refl, sym, arith, List, [], ◌∷◌}
use Rattle.std.specs.Prelude.{ℤ, pos}
use Rattle.std.proofs.lemmas.Int.{ints}
use Rattle.std.proofs.lemmas.List.Elements.{All-nil, All-cons}
use Rattle.ivl_laws.specs.Families.{set_at}
use Rattle.ivl_store.specs.declared.store.constraint.Constraint.{Constraint}
use Rattle.ivl_store.specs.Solutions.{AreDistinct, Names, IsSolution, IsCommonSolution, HasSolutionAt, Supports, SupportedBy, LiesWithin, IsGreatestFamily}
use Rattle.ivl_store.specs.FamilyLaws.{IsUnionOf, IsFamilyOf}
use Rattle.ivl_store.proofs.Lists.{All-head}

-- x + y = z for variables 0, 1 and 2, and for 1, 2 and 3
abbrev sum_of_first : Constraint
sum_of_first = record { x = 0; y = 1; z = 2 }

abbrev sum_of_next : Constraint
sum_of_next = record { x = 1; y = 2; z = 3 }

-- families in which each set has one number, has none, or has all
abbrev zeros : ℕ → ℤ → Type 0
zeros i v = v ≡ pos 0

abbrev ones : ℕ → ℤ → Type 0
ones i v = v ≡ pos 1

abbrev none : ℕ → ℤ → Type 0
none i v = ⊥

abbrev all : ℕ → ℤ → Type 0
all i v = Unit {0}

-- ---- AreDistinct, Names

x_may_not_be_y : ¬ (AreDistinct (record { x = 4; y = 4; z = 5 }))
x_may_not_be_y d = d.0 refl

the_sum_names_its_first : Names sum_of_next 1
the_sum_names_its_first = inl refl

the_sum_names_no_other : ¬ (Names sum_of_next 0)
the_sum_names_no_other (inl e) = omega arith
the_sum_names_no_other (inr (inl e)) = omega arith
the_sum_names_no_other (inr (inr e)) = omega arith

-- ---- IsSolution

zeros_are_a_solution : IsSolution sum_of_first zeros (λ i. pos 0)
zeros_are_a_solution = record { in_x = refl; in_y = refl; in_z = refl; sum = refl }

one_and_one_is_not_one : ¬ (IsSolution sum_of_first ones (λ i. pos 1))
one_and_one_is_not_one s = let e = s.sum in omega (arith, ints)

-- ---- IsCommonSolution

zeros_solve_both : IsCommonSolution (sum_of_first ∷ sum_of_next ∷ []) zeros (λ i. pos 0)
zeros_solve_both = All-cons (λ c. IsSolution c zeros (λ i. pos 0)) sum_of_first (sum_of_next ∷ []) zeros_are_a_solution
    (All-cons (λ c. IsSolution c zeros (λ i. pos 0)) sum_of_next [] (record { in_x = refl; in_y = refl; in_z = refl; sum = refl })
    (All-nil (λ c. IsSolution c zeros (λ i. pos 0))))

each_point_solves_no_constraint : (point : ℕ → ℤ) → IsCommonSolution [] none point
each_point_solves_no_constraint point = All-nil (λ c. IsSolution c none point)

ones_solve_none : ¬ (IsCommonSolution (sum_of_first ∷ []) ones (λ i. pos 1))
ones_solve_none h = one_and_one_is_not_one (All-head (λ c. IsSolution c ones (λ i. pos 1)) sum_of_first [] h)

-- ---- HasSolutionAt

two_is_in_a_solution : HasSolutionAt sum_of_next all 2 (pos 2)
two_is_in_a_solution = record { point = pos; solution = record { in_x = tt; in_y = tt; in_z = tt; sum = refl }; at = refl }

another_variable_may_have_any_number : HasSolutionAt sum_of_next all 9 (pos 9)
another_variable_may_have_any_number = record { point = pos; solution = record { in_x = tt; in_y = tt; in_z = tt; sum = refl }; at = refl }

one_is_in_no_solution : ¬ (HasSolutionAt sum_of_first ones 0 (pos 1))
one_is_in_no_solution h = let a = h.solution.in_x in let b = h.solution.in_y in let c = h.solution.in_z in let e = h.solution.sum in omega (arith, ints)

-- ---- Supports, SupportedBy

zeros_are_supported : (c : Constraint) → Supports c zeros
zeros_are_supported c i names v e = record { point = (λ j. pos 0); solution = record { in_x = refl; in_y = refl; in_z = refl; sum = refl }; at = sym e }

what_has_no_member_is_supported : Supports sum_of_first none
what_has_no_member_is_supported i names v h = absurd h

ones_are_not_supported : ¬ (Supports sum_of_first ones)
ones_are_not_supported s = one_is_in_no_solution (s 0 (inl refl) (pos 1) refl)

zeros_are_supported_by_both : SupportedBy (sum_of_first ∷ sum_of_next ∷ []) zeros
zeros_are_supported_by_both = All-cons (λ c. Supports c zeros) sum_of_first (sum_of_next ∷ []) (zeros_are_supported sum_of_first)
    (All-cons (λ c. Supports c zeros) sum_of_next [] (zeros_are_supported sum_of_next) (All-nil (λ c. Supports c zeros)))

no_constraint_supports_all : SupportedBy [] ones
no_constraint_supports_all = All-nil (λ c. Supports c ones)

ones_are_not_supported_by_the_first : ¬ (SupportedBy (sum_of_first ∷ sum_of_next ∷ []) ones)
ones_are_not_supported_by_the_first s = ones_are_not_supported (All-head (λ c. Supports c ones) sum_of_first (sum_of_next ∷ []) s)

-- ---- LiesWithin

none_lies_within_ones : LiesWithin none ones
none_lies_within_ones i v h = absurd h

ones_lie_within_all : LiesWithin ones all
ones_lie_within_all i v h = tt

zeros_do_not_lie_within_ones : ¬ (LiesWithin zeros ones)
zeros_do_not_lie_within_ones w = let e = w 0 (pos 0) refl in omega (arith, ints)

-- ---- IsGreatestFamily

zeros_are_the_greatest_within_zeros : IsGreatestFamily (sum_of_first ∷ sum_of_next ∷ []) zeros zeros
zeros_are_the_greatest_within_zeros = record { within = (λ i v h. h); supported = zeros_are_supported_by_both; greatest = (λ other w s. w) }

no_constraint_leaves_all : IsGreatestFamily [] ones ones
no_constraint_leaves_all = record { within = (λ i v h. h); supported = no_constraint_supports_all; greatest = (λ other w s. w) }

ones_are_not_the_greatest : ¬ (IsGreatestFamily (sum_of_first ∷ sum_of_next ∷ []) ones ones)
ones_are_not_the_greatest g = ones_are_not_supported_by_the_first g.supported

-- ---- IsUnionOf

abbrev one_to_two : List (List (ℤ × ℤ))
one_to_two = ((pos 1, pos 2) ∷ []) ∷ []

with_itself : IsUnionOf one_to_two one_to_two one_to_two
with_itself i v = ((λ h. inl h), (λ h. elim h [ inl a ↦ a | inr b ↦ b ]))

with_nothing : IsUnionOf one_to_two one_to_two []
with_nothing i v = ((λ h. inl h), (λ h. elim h [ inl a ↦ a | inr b ↦ absurd b ]))

nothing_is_not_a_union_with_some : ¬ (IsUnionOf [] one_to_two [])
nothing_is_not_a_union_with_some u = (u 0 (pos 1)).1 (inl (inl (omega (arith, ints), omega (arith, ints))))

-- ---- IsFamilyOf

no_number_for_no_constraint : (point : ℕ → ℤ) → IsFamilyOf [] point []
no_number_for_no_constraint point = record { solved = All-nil (λ c. IsSolution c (set_at []) point); only = (λ i v h. absurd h) }

abbrev three_zeros : List (List (ℤ × ℤ))
three_zeros = ((pos 0, pos 0) ∷ []) ∷ ((pos 0, pos 0) ∷ []) ∷ ((pos 0, pos 0) ∷ []) ∷ []

zeros_are_of_the_zero_point : IsFamilyOf (sum_of_first ∷ []) (λ i. pos 0) three_zeros
zeros_are_of_the_zero_point = record {
  solved = All-cons (λ c. IsSolution c (set_at three_zeros) (λ i. pos 0)) sum_of_first []
      (record { in_x = inl (omega (arith, ints), omega (arith, ints)); in_y = inl (omega (arith, ints), omega (arith, ints)); in_z = inl (omega (arith, ints), omega (arith, ints)); sum = refl })
      (All-nil (λ c. IsSolution c (set_at three_zeros) (λ i. pos 0)));
  only = zero_alone;
}
  where
    zero_alone : (i : ℕ) (v : ℤ) → set_at three_zeros i v → pos 0 ≡ v
    zero_alone zero v (inl b) = let l = b.0 in let u = b.1 in omega (arith, ints)
    zero_alone zero v (inr n) = absurd n
    zero_alone (suc zero) v (inl b) = let l = b.0 in let u = b.1 in omega (arith, ints)
    zero_alone (suc zero) v (inr n) = absurd n
    zero_alone (suc (suc zero)) v (inl b) = let l = b.0 in let u = b.1 in omega (arith, ints)
    zero_alone (suc (suc zero)) v (inr n) = absurd n
    zero_alone (suc (suc (suc i))) v n = absurd n

two_numbers_are_of_no_point : (point : ℕ → ℤ) → ¬ (IsFamilyOf [] point one_to_two)
two_numbers_are_of_no_point point f =
    let a = f.only 0 (pos 1) (inl (omega (arith, ints), omega (arith, ints))) in
    let b = f.only 0 (pos 2) (inl (omega (arith, ints), omega (arith, ints))) in
    omega (arith, ints)
