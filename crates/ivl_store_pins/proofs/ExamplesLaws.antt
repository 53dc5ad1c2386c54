-- Examples of the laws of supported families: what each says of given posts, families and points.
use Rattle.std.proofs.Common.{ℕ, zero, suc, inl, inr, refl, arith, List, [], ◌∷◌}
use Rattle.std.specs.Prelude.{ℤ, pos, ◌↔◌, ◌⊎◌}
use Rattle.std.proofs.lemmas.Int.{ints}
use Rattle.std.proofs.lemmas.List.Elements.{All-nil, All-cons}
use Rattle.std.proofs.lemmas.List.Sorted.{All-permutation, IsPermutation-refl, IsPermutation-reverse, IsPermutation-sym}
use Rattle.ivl_laws.specs.Runs.{Covers}
use Rattle.ivl_laws.specs.Families.{set_at}
use Rattle.ivl_store.specs.declared.store.constraint.Constraint.{Constraint}
use Rattle.ivl_store.specs.declared.store.post.Post.{Post}
use Rattle.ivl_store.specs.declared.store.post.Post.TheVariants.{Restrict}
use Rattle.ivl_store.specs.Solutions.{IsSolution, IsCommonSolution, Supports, SupportedBy, LiesWithin}
use Rattle.ivl_store.specs.Posts.{CutBy, IsLeftBy}
use Rattle.ivl_store.specs.FamilyLaws.{UnionIsSupported, LaterLiesWithin, LeftIsOne, OrderPlaysNoPart, IsFamilyOf, SolutionIsFamily, SolutionsStay}
use Rattle.ivl_store.proofs.Lists.{All-head}

abbrev Sets : Type 0
Sets = List (List (ℤ × ℤ))

-- x + y = z for variables 0, 1 and 2
abbrev the_sum : Constraint
the_sum = record { x = 0; y = 1; z = 2 }

-- 0 + 0 = 0, 1 + 1 = 2, and both
abbrev three_zeros : Sets
three_zeros = ((pos 0, pos 0) ∷ []) ∷ ((pos 0, pos 0) ∷ []) ∷ ((pos 0, pos 0) ∷ []) ∷ []

abbrev one_and_one : Sets
one_and_one = ((pos 1, pos 1) ∷ []) ∷ ((pos 1, pos 1) ∷ []) ∷ ((pos 2, pos 2) ∷ []) ∷ []

abbrev both_sums : Sets
both_sums = ((pos 0, pos 1) ∷ []) ∷ ((pos 0, pos 1) ∷ []) ∷ ((pos 0, pos 0) ∷ (pos 2, pos 2) ∷ []) ∷ []

abbrev Posted : Type 0
Posted = Post ℕ ℕ

-- variable 0 keeps 1 and 2, and then 2 and more
abbrev the_cut : Posted
the_cut = Restrict 0 ((pos 1, pos 2) ∷ [])

abbrev another_cut : Posted
another_cut = Restrict 0 ((pos 2, pos 9) ∷ [])

abbrev one_to_three : Sets
one_to_three = ((pos 1, pos 3) ∷ []) ∷ []

abbrev one_to_two : Sets
one_to_two = ((pos 1, pos 2) ∷ []) ∷ []

no_post_leaves_all : (sets : Sets) → IsLeftBy {B = ℕ} {O = ℕ} [] (set_at sets) (set_at sets)
no_post_leaves_all sets = record { within = (λ i v h. (h, tt)); supported = All-nil (λ c. Supports c (set_at sets)); greatest = (λ other w s i v h. (w i v h).0) }

the_cut_leaves_one_to_two : IsLeftBy (the_cut ∷ []) (set_at one_to_three) (set_at one_to_two)
the_cut_leaves_one_to_two = record { within = within; supported = All-nil (λ c. Supports c (set_at one_to_two)); greatest = (λ other w s. greatest (set_at other) w) }
  where
    within : (i : ℕ) (v : ℤ) → set_at one_to_two i v → CutBy (the_cut ∷ []) (set_at one_to_three) i v
    within zero v (inl b) = let l = b.0 in let u = b.1 in (inl (omega (arith, ints), omega (arith, ints)), ((λ _. inl (omega (arith, ints), omega (arith, ints))), tt))
    within zero v (inr n) = absurd n
    within (suc i) v n = absurd n

    greatest : (other : ℕ → ℤ → Type 0) → LiesWithin other (CutBy (the_cut ∷ []) (set_at one_to_three)) → LiesWithin other (set_at one_to_two)
    greatest other w zero v h = (w 0 v h).1.0 refl
    greatest other w (suc i) v h = absurd ((w (suc i) v h).0)

-- ---- UnionIsSupported

two_solutions_make_a_supported_family : UnionIsSupported → SupportedBy (the_sum ∷ []) (set_at three_zeros) → SupportedBy (the_sum ∷ []) (set_at one_and_one)
    → SupportedBy (the_sum ∷ []) (set_at both_sums)
two_solutions_make_a_supported_family law = law (the_sum ∷ []) both_sums three_zeros one_and_one is_union
  where
    zero_or_one : (v : ℤ) → Covers ((pos 0, pos 1) ∷ []) v ↔ (Covers ((pos 0, pos 0) ∷ []) v ⊎ Covers ((pos 1, pos 1) ∷ []) v)
    zero_or_one v = grind (arith, ints)

    zero_or_two : (v : ℤ) → Covers ((pos 0, pos 0) ∷ (pos 2, pos 2) ∷ []) v ↔ (Covers ((pos 0, pos 0) ∷ []) v ⊎ Covers ((pos 2, pos 2) ∷ []) v)
    zero_or_two v = grind (arith, ints)

    is_union : (i : ℕ) (v : ℤ) → set_at both_sums i v ↔ (set_at three_zeros i v ⊎ set_at one_and_one i v)
    is_union zero v = zero_or_one v
    is_union (suc zero) v = zero_or_one v
    is_union (suc (suc zero)) v = zero_or_two v
    is_union (suc (suc (suc i))) v = ((λ n. absurd n), (λ h. elim h [ inl n ↦ n | inr n ↦ n ]))

with_nothing_a_family_stays_supported : UnionIsSupported → SupportedBy (the_sum ∷ []) (set_at one_and_one) → SupportedBy (the_sum ∷ []) (set_at one_and_one)
with_nothing_a_family_stays_supported law s =
    law (the_sum ∷ []) one_and_one one_and_one [] (λ i v. ((λ h. inl h), (λ h. elim h [ inl a ↦ a | inr n ↦ absurd n ]))) s
    (All-cons (λ c. Supports c (set_at [])) the_sum [] (λ i names v h. absurd h) (All-nil (λ c. Supports c (set_at []))))

no_constraint_asks_nothing_of_a_union : UnionIsSupported → SupportedBy [] (set_at both_sums)
no_constraint_asks_nothing_of_a_union law =
    law [] both_sums both_sums both_sums (λ i v. ((λ h. inl h), (λ h. elim h [ inl a ↦ a | inr b ↦ b ]))) (All-nil (λ c. Supports c (set_at both_sums)))
    (All-nil (λ c. Supports c (set_at both_sums)))

-- ---- LaterLiesWithin

after_the_cut_no_other_is_left : LaterLiesWithin (the_cut ∷ []) → LiesWithin (set_at one_to_two) (set_at one_to_three)
after_the_cut_no_other_is_left law = law 0 one_to_three one_to_three one_to_two (no_post_leaves_all one_to_three) the_cut_leaves_one_to_two

past_the_last_post_nothing_comes_back : LaterLiesWithin (the_cut ∷ []) → (family : Sets) → IsLeftBy (the_cut ∷ []) (set_at one_to_three) (set_at family)
    → LiesWithin (set_at family) (set_at one_to_two)
past_the_last_post_nothing_comes_back law family l = law 1 one_to_three one_to_two family the_cut_leaves_one_to_two l

three_does_not_come_back : LaterLiesWithin (the_cut ∷ another_cut ∷ []) → (family : Sets) → IsLeftBy (the_cut ∷ another_cut ∷ []) (set_at one_to_three) (set_at family)
    → ¬ (set_at family 0 (pos 3))
three_does_not_come_back law family l h = apart (law 1 one_to_three one_to_two family the_cut_leaves_one_to_two l 0 (pos 3) h)
  where
    apart : set_at one_to_two 0 (pos 3) → ⊥
    apart (inl b) = let u = b.1 in omega (arith, ints)
    apart (inr n) = n

-- ---- LeftIsOne

the_cut_leaves_no_other_family : LeftIsOne (the_cut ∷ []) → (family : Sets) → IsLeftBy (the_cut ∷ []) (set_at one_to_three) (set_at family)
    → (i : ℕ) (v : ℤ) → set_at family i v ↔ set_at one_to_two i v
the_cut_leaves_no_other_family law family l = law one_to_three family one_to_two l the_cut_leaves_one_to_two

the_cut_does_not_leave_nothing : LeftIsOne (the_cut ∷ []) → ¬ (IsLeftBy (the_cut ∷ []) (set_at one_to_three) (set_at []))
the_cut_does_not_leave_nothing law l = (law one_to_three one_to_two [] the_cut_leaves_one_to_two l 0 (pos 1)).0 (inl (omega (arith, ints), omega (arith, ints)))

no_post_leaves_the_same_alone : LeftIsOne {B = ℕ} {O = ℕ} [] → (sets family : Sets) → IsLeftBy {B = ℕ} {O = ℕ} [] (set_at sets) (set_at family)
    → (i : ℕ) (v : ℤ) → set_at sets i v ↔ set_at family i v
no_post_leaves_the_same_alone law sets family l = law sets sets family (no_post_leaves_all sets) l

-- ---- OrderPlaysNoPart

the_cuts_may_be_turned : OrderPlaysNoPart (the_cut ∷ another_cut ∷ []) (another_cut ∷ the_cut ∷ []) → (family : Sets)
    → IsLeftBy (the_cut ∷ another_cut ∷ []) (set_at one_to_three) (set_at family) → IsLeftBy (another_cut ∷ the_cut ∷ []) (set_at one_to_three) (set_at family)
the_cuts_may_be_turned law family = law (IsPermutation-reverse (the_cut ∷ another_cut ∷ [])) one_to_three family

the_same_order_is_an_order : OrderPlaysNoPart (the_cut ∷ []) (the_cut ∷ []) → IsLeftBy (the_cut ∷ []) (set_at one_to_three) (set_at one_to_two)
the_same_order_is_an_order law = law (IsPermutation-refl (the_cut ∷ [])) one_to_three one_to_two the_cut_leaves_one_to_two

nothing_is_said_of_posts_left_out : OrderPlaysNoPart (the_cut ∷ []) []
nothing_is_said_of_posts_left_out p =
    let none = λ (post : Posted). ⊥ in
    absurd (All-head none the_cut [] (All-permutation none [] (the_cut ∷ []) (IsPermutation-sym (the_cut ∷ []) [] p) (All-nil none)))

-- ---- SolutionIsFamily

zeros_solve_the_sum : IsCommonSolution (the_sum ∷ []) (set_at three_zeros) (λ i. pos 0)
zeros_solve_the_sum = All-cons (λ c. IsSolution c (set_at three_zeros) (λ i. pos 0)) the_sum []
    (record { in_x = inl (omega (arith, ints), omega (arith, ints)); in_y = inl (omega (arith, ints), omega (arith, ints)); in_z = inl (omega (arith, ints), omega (arith, ints)); sum = refl })
    (All-nil (λ c. IsSolution c (set_at three_zeros) (λ i. pos 0)))

zeros_have_a_family : SolutionIsFamily
    → (family : Sets) × IsFamilyOf (the_sum ∷ []) (λ i. pos 0) family × SupportedBy (the_sum ∷ []) (set_at family) × LiesWithin (set_at family) (set_at three_zeros)
zeros_have_a_family law = law (the_sum ∷ []) three_zeros (λ i. pos 0) zeros_solve_the_sum

each_point_has_a_family_without_constraints : SolutionIsFamily → (point : ℕ → ℤ)
    → (family : Sets) × IsFamilyOf [] point family × SupportedBy [] (set_at family) × LiesWithin (set_at family) (set_at [])
each_point_has_a_family_without_constraints law point = law [] [] point (All-nil (λ c. IsSolution c (set_at []) point))

ones_have_no_family : (family : Sets) → ¬ (IsFamilyOf (the_sum ∷ []) (λ i. pos 1) family)
ones_have_no_family family f = let e = (All-head (λ c. IsSolution c (set_at family) (λ i. pos 1)) the_sum [] f.solved).sum in omega (arith, ints)

-- ---- SolutionsStay

zeros_stay : SolutionsStay → (new : Sets)
    → ((family : Sets) → SupportedBy (the_sum ∷ []) (set_at family) → LiesWithin (set_at family) (set_at three_zeros) → LiesWithin (set_at family) (set_at new))
    → IsCommonSolution (the_sum ∷ []) (set_at new) (λ i. pos 0)
zeros_stay law new keeps = law (the_sum ∷ []) three_zeros new keeps (λ i. pos 0) zeros_solve_the_sum

all_stay_where_nothing_changes : SolutionsStay → (point : ℕ → ℤ) → IsCommonSolution (the_sum ∷ []) (set_at both_sums) point → IsCommonSolution (the_sum ∷ []) (set_at both_sums) point
all_stay_where_nothing_changes law = law (the_sum ∷ []) both_sums both_sums (λ family s w. w)

where_families_go_a_solution_may_go : ¬ (IsCommonSolution (the_sum ∷ []) (set_at []) (λ i. pos 0))
where_families_go_a_solution_may_go h = (All-head (λ c. IsSolution c (set_at []) (λ i. pos 0)) the_sum [] h).in_x
