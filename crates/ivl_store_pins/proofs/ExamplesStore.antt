-- Examples of what the store's contracts speak of.
use Rattle.std.proofs.Common.{◌≡◌, ℕ, zero, suc, ◌+◌, ◌<◌, inl, inr, refl, arith, List, [], ◌∷◌, true, false}
use Rattle.std.specs.Prelude.{ℤ, pos, ◌-ℤ◌, Some, None}
use Rattle.std.proofs.lemmas.Int.{ints}
use Rattle.ivl_laws.specs.Families.{set_at}
use Rattle.ivl_store.specs.declared.store.constraint.Constraint.{Constraint}
use Rattle.ivl_store.specs.declared.store.post.Post.TheVariants.{Restrict, Require}
use Rattle.ivl_store.specs.Solutions.{AreDistinct, Names, IsSolution, LostMember}
use Rattle.ivl_store.specs.Narrowing.{Narrowed, first_unknown, first_unknown_of}
use Rattle.ivl_store.specs.NarrowedSets.{narrowed_at}
use Rattle.ivl_store.specs.Measure.{total, count_from}
use Rattle.ivl_store.specs.Posts.{constraints_of, CutBy, HasEmpty, first_unknown_post}
use Rattle.ivl_store.specs.Settled.{any_lost}

-- x + y = z for variables 0, 1 and 2, over [0..10], [3..4] and [5..6]
abbrev the_sum : Constraint
the_sum = record { x = 0; y = 1; z = 2 }

abbrev the_sets : List (List (ℤ × ℤ))
the_sets = ((pos 0, pos 10) ∷ []) ∷ ((pos 3, pos 4) ∷ []) ∷ ((pos 5, pos 6) ∷ []) ∷ []

abbrev same_twice : Constraint
same_twice = record { x = 0; y = 1; z = 0 }

-- ---- AreDistinct, Names

three_variables_are_distinct : AreDistinct the_sum
three_variables_are_distinct = ((λ e. omega arith), (λ e. omega arith), (λ e. omega arith))

a_variable_twice_is_not : ¬ (AreDistinct same_twice)
a_variable_twice_is_not d = d.1 refl

the_sum_names_its_last : Names the_sum 2
the_sum_names_its_last = inr (inr refl)

-- ---- IsSolution

one_and_four_are_five : IsSolution the_sum (set_at the_sets) (λ i. elim i [ zero ↦ pos 1 | suc j ↦ pos (4 + j) ])
one_and_four_are_five = record {
  in_x = inl (omega (arith, ints), omega (arith, ints));
  in_y = inl (omega (arith, ints), omega (arith, ints));
  in_z = inl (omega (arith, ints), omega (arith, ints));
  sum = refl;
}

-- ---- Narrowed

one_stays : Narrowed the_sum (set_at the_sets) 0 (pos 1)
one_stays = record {
  kept = inl (omega (arith, ints), omega (arith, ints));
  at_x = (λ _ _ _. (pos 5, pos 4, inl (omega (arith, ints), omega (arith, ints)), inl (omega (arith, ints), omega (arith, ints)), refl));
  at_y = (λ e. absurd (omega arith));
  at_z = (λ e. absurd (omega arith));
}

zero_goes : ¬ (Narrowed the_sum (set_at the_sets) 0 (pos 0))
zero_goes n = apart (n.at_x refl (λ e. omega arith) (λ e. omega arith))
  where
    apart : (d : (x : ℤ) × (y : ℤ) × set_at the_sets 2 x × set_at the_sets 1 y × (x -ℤ y ≡ pos 0)) → ⊥
    apart (x, y, inl a, inl b, e) = let l = a.0 in let u = b.1 in omega (arith, ints)
    apart (x, y, inr n, b, e) = n
    apart (x, y, inl a, inr n, e) = n

another_variable_stays : Narrowed the_sum (λ i v. v ≡ pos 9) 7 (pos 9)
another_variable_stays = record { kept = refl; at_x = (λ e. absurd (omega arith)); at_y = (λ e. absurd (omega arith)); at_z = (λ e. absurd (omega arith)) }

-- ---- LostMember

zero_is_lost : LostMember (set_at (((pos 0, pos 1) ∷ []) ∷ [])) (set_at (((pos 1, pos 1) ∷ []) ∷ []))
zero_is_lost = record {
  variable = 0;
  member = pos 0;
  was = inl (omega (arith, ints), omega (arith, ints));
  gone = (λ h. elim h [ inl b ↦ (let l = b.0 in omega (arith, ints)) | inr n ↦ n ]);
}

nothing_is_lost : (sets : List (List (ℤ × ℤ))) → ¬ (LostMember (set_at sets) (set_at sets))
nothing_is_lost sets l = l.gone l.was

-- ---- first_unknown, first_unknown_of, first_unknown_post

all_are_known : first_unknown 3 the_sum ≡ None
all_are_known = refl

y_is_the_first_unknown : first_unknown 3 (record { x = 0; y = 7; z = 9 }) ≡ Some 7
y_is_the_first_unknown = refl

x_comes_before_y : first_unknown 3 (record { x = 8; y = 7; z = 9 }) ≡ Some 8
x_comes_before_y = refl

the_first_in_list_order : first_unknown_of 3 (the_sum ∷ record { x = 0; y = 7; z = 9 } ∷ record { x = 8; y = 0; z = 0 } ∷ []) ≡ Some 7
the_first_in_list_order = refl

none_in_an_empty_list : first_unknown_of 0 [] ≡ None
none_in_an_empty_list = refl

a_cut_may_be_the_first : first_unknown_post {B = ℕ} {O = ℕ} 3 (Require the_sum ∷ Restrict 3 [] ∷ Require (record { x = 9; y = 0; z = 0 }) ∷ []) ≡ Some 3
a_cut_may_be_the_first = refl

-- ---- total, narrowed_at, any_lost, constraints_of

two_and_one_are_three : total (pos 0, pos 9) (((pos 1, pos 2) ∷ []) ∷ ((pos 4, pos 4) ∷ []) ∷ []) ≡ 3
unfolding count_from
two_and_one_are_three = refl

what_lies_outside_is_not_counted : total (pos 0, pos 9) (((pos 8, pos 20) ∷ []) ∷ []) ≡ 2
unfolding count_from
what_lies_outside_is_not_counted = refl

no_set_has_no_member : total (pos 0, pos 9) [] ≡ 0
no_set_has_no_member = refl

the_second_is_replaced : narrowed_at ([] ∷ [] ∷ []) 1 (Some ((pos 1, pos 2) ∷ [])) ≡ [] ∷ ((pos 1, pos 2) ∷ []) ∷ []
the_second_is_replaced = refl

nothing_is_replaced : narrowed_at the_sets 1 None ≡ the_sets
nothing_is_replaced = refl

one_mark_is_enough : any_lost (record { x = false; y = false; z = true }) ≡ true
one_mark_is_enough = refl

cuts_are_no_constraints : constraints_of {B = ℕ} {O = ℕ} (Restrict 0 [] ∷ Require the_sum ∷ Restrict 1 [] ∷ Require same_twice ∷ []) ≡ the_sum ∷ same_twice ∷ []
cuts_are_no_constraints = refl

-- ---- CutBy, HasEmpty

five_is_left_by_the_cut : CutBy {B = ℕ} {O = ℕ} (Restrict 0 ((pos 5, pos 20) ∷ []) ∷ []) (set_at the_sets) 0 (pos 5)
five_is_left_by_the_cut = (inl (omega (arith, ints), omega (arith, ints)), ((λ _. inl (omega (arith, ints), omega (arith, ints))), tt))

another_domain_is_not_cut : CutBy {B = ℕ} {O = ℕ} (Restrict 0 [] ∷ []) (set_at the_sets) 1 (pos 3)
another_domain_is_not_cut = (inl (omega (arith, ints), omega (arith, ints)), ((λ e. absurd (omega arith)), tt))

the_second_is_empty : HasEmpty 2 (set_at (((pos 1, pos 1) ∷ []) ∷ [] ∷ []))
the_second_is_empty = record { variable = 1; known = omega arith; empty = (λ v h. h) }

none_is_empty : ¬ (HasEmpty 1 (set_at (((pos 1, pos 1) ∷ []) ∷ [])))
none_is_empty h = apart h.variable h.known h.empty
  where
    apart : (i : ℕ) → i < 1 → ((v : ℤ) → ¬ (set_at (((pos 1, pos 1) ∷ []) ∷ []) i v)) → ⊥
    apart zero lt none = none (pos 1) (inl (omega (arith, ints), omega (arith, ints)))
    apart (suc i) lt none = omega arith
