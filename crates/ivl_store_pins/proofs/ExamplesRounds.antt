-- Examples of rounds of narrowings, of flags, and of what is left of a set.
use Rattle.std.proofs.Common.{◌≡◌, ℕ, zero, suc, ◌<◌, inl, refl, arith, List, [], ◌∷◌, true, false}
use Rattle.std.specs.Prelude.{ℤ, pos, ◌+ℤ◌, ◌-ℤ◌, Some, None, slice_index_or, take}
use Rattle.std.proofs.lemmas.Bool.{false≢true}
use Rattle.std.proofs.lemmas.Int.{ints}
use Rattle.std.proofs.lemmas.List.Elements.{All-nil}
use Rattle.ivl_laws.specs.Families.{set_at}
use Rattle.ivl_store.specs.declared.store.constraint.Constraint.{Constraint}
use Rattle.ivl_store.specs.Solutions.{LostMember, Supports}
use Rattle.ivl_store.specs.Narrowing.{Narrowed, IsFixed, Keeps, AllPresent, first_unknown_of}
use Rattle.ivl_store.specs.Rounds.{narrowed_by, rounds_of, IsNarrowedBy, IsPartlyNarrowedBy, After, AfterSome, EachLost}
use Rattle.ivl_store.specs.Settled.{any_lost, AreLost, AreSettled, AreCleared}
use Rattle.ivl_store.specs.NarrowedSets.{IsLeftOf, AreLeftAt, narrowed_at}
use Rattle.ivl_store.specs.Measure.{covers, count_from}

-- x + y = z for variables 0, 1 and 2
abbrev the_sum : Constraint
the_sum = record { x = 0; y = 1; z = 2 }

abbrev zeros : ℕ → ℤ → Type 0
zeros i v = v ≡ pos 0

abbrev ones : ℕ → ℤ → Type 0
ones i v = v ≡ pos 1

abbrev none : ℕ → ℤ → Type 0
none i v = ⊥

-- ---- Narrowed, IsFixed

zero_of_zeros_is_kept : (c : Constraint) (i : ℕ) (v : ℤ) → zeros i v → Narrowed c zeros i v
zero_of_zeros_is_kept c i v e = record {
  kept = e;
  at_x = (λ _ _ _. (pos 0, pos 0, refl, refl, (let f = e in omega (arith, ints))));
  at_y = (λ _ _. (pos 0, pos 0, refl, refl, (let f = e in omega (arith, ints))));
  at_z = (λ _. (pos 0, pos 0, refl, refl, (let f = e in omega (arith, ints))));
}

one_of_ones_goes : ¬ (Narrowed the_sum ones 0 (pos 1))
one_of_ones_goes n = apart (n.at_x refl (λ e. omega arith) (λ e. omega arith))
  where
    apart : (d : (x : ℤ) × (y : ℤ) × (x ≡ pos 1) × (y ≡ pos 1) × (x -ℤ y ≡ pos 1)) → ⊥
    apart (x, y, a, b, e) = omega (arith, ints)

zeros_are_fixed : (c : Constraint) → IsFixed zeros c
zeros_are_fixed c i v e = zero_of_zeros_is_kept c i v e

no_members_are_fixed : (c : Constraint) → IsFixed none c
no_members_are_fixed c i v h = absurd h

ones_are_not_fixed : ¬ (IsFixed ones the_sum)
ones_are_not_fixed f = one_of_ones_goes (f 0 (pos 1) refl)

-- ---- Keeps, AllPresent

no_member_may_come : ¬ (Keeps [] [] (((pos 1, pos 1) ∷ []) ∷ []))
no_member_may_come k = k.within 0 (pos 1) (inl (omega (arith, ints), omega (arith, ints)))

no_member_goes_by_no_constraint : ¬ (Keeps [] (((pos 1, pos 1) ∷ []) ∷ []) [])
no_member_goes_by_no_constraint k =
    k.families (((pos 1, pos 1) ∷ []) ∷ []) (All-nil (λ c. Supports c (set_at (((pos 1, pos 1) ∷ []) ∷ [])))) (λ i v h. h) 0 (pos 1) (inl (omega (arith, ints), omega (arith, ints)))

the_same_sets_keep_all : (constraints : List Constraint) (sets : List (List (ℤ × ℤ))) → Keeps constraints sets sets
the_same_sets_keep_all constraints sets = record { within = (λ i v h. h); families = (λ family s w. w) }

all_three_are_present : AllPresent 3 the_sum
all_three_are_present = (omega arith, omega arith, omega arith)

the_last_is_not_present : ¬ (AllPresent 2 the_sum)
the_last_is_not_present p = let l = p.2 in omega arith

none_is_present_without_variables : ¬ (AllPresent 0 the_sum)
none_is_present_without_variables p = let l = p.0 in omega arith

all_of_a_list_are_known : first_unknown_of 3 (the_sum ∷ the_sum ∷ []) ≡ None
all_of_a_list_are_known = refl

-- ---- narrowed_by, rounds_of

no_constraint_takes_nothing : (sets : ℕ → ℤ → Type 0) (i : ℕ) (v : ℤ) → sets i v → narrowed_by [] sets i v
no_constraint_takes_nothing sets i v h = h

zero_is_kept_by_a_list : narrowed_by (the_sum ∷ []) zeros 0 (pos 0)
zero_is_kept_by_a_list = zero_of_zeros_is_kept the_sum 0 (pos 0) refl

one_goes_by_a_list : ¬ (narrowed_by (the_sum ∷ []) ones 0 (pos 1))
one_goes_by_a_list = one_of_ones_goes

no_round_takes_nothing : rounds_of (the_sum ∷ []) 0 ones 0 (pos 1)
no_round_takes_nothing = refl

one_goes_in_the_first_round : ¬ (rounds_of (the_sum ∷ []) 1 ones 0 (pos 1))
one_goes_in_the_first_round = one_of_ones_goes

another_variable_stays_in_each_round : rounds_of (the_sum ∷ []) 2 ones 7 (pos 1)
another_variable_stays_in_each_round =
    let first : Narrowed the_sum ones 7 (pos 1) = record { kept = refl; at_x = (λ e. absurd (omega arith)); at_y = (λ e. absurd (omega arith)); at_z = (λ e. absurd (omega arith)) } in
    record { kept = first; at_x = (λ e. absurd (omega arith)); at_y = (λ e. absurd (omega arith)); at_z = (λ e. absurd (omega arith)) }

-- ---- IsNarrowedBy, IsPartlyNarrowedBy, After, AfterSome

zeros_are_left_of_zeros : IsNarrowedBy (the_sum ∷ []) zeros zeros
zeros_are_left_of_zeros i v = (zero_of_zeros_is_kept the_sum i v, (λ n. n.kept))

ones_are_not_left_of_ones : ¬ (IsNarrowedBy (the_sum ∷ []) ones ones)
ones_are_not_left_of_ones n = one_of_ones_goes ((n 0 (pos 1)).0 refl)

all_is_left_by_no_constraint : IsNarrowedBy [] ones ones
all_is_left_by_no_constraint i v = ((λ h. h), (λ h. h))

the_first_none_of_a_list_take_nothing : IsPartlyNarrowedBy (the_sum ∷ []) ones ones
the_first_none_of_a_list_take_nothing = (0, omega arith, (λ i v. ((λ h. h), (λ h. h))))

the_first_of_a_list_leaves_zeros : IsPartlyNarrowedBy (the_sum ∷ []) zeros zeros
the_first_of_a_list_leaves_zeros = (1, omega arith, zeros_are_left_of_zeros)

no_first_part_leaves_none_of_one : ¬ (IsPartlyNarrowedBy [] ones none)
no_first_part_leaves_none_of_one (first, bound, n) = apart first n
  where
    apart : (k : ℕ) → IsNarrowedBy (take k []) ones none → ⊥
    apart zero n = (n 0 (pos 1)).1 refl
    apart (suc k) n = (n 0 (pos 1)).1 refl

no_round_leaves_all : After (the_sum ∷ []) 0 ones ones
no_round_leaves_all i v = ((λ h. h), (λ h. h))

one_round_leaves_zeros : After (the_sum ∷ []) 1 zeros zeros
one_round_leaves_zeros = zeros_are_left_of_zeros

one_round_does_not_leave_ones : ¬ (After (the_sum ∷ []) 1 ones ones)
one_round_does_not_leave_ones = ones_are_not_left_of_ones

no_round_and_no_constraint : AfterSome (the_sum ∷ []) 0 0 ones ones
no_round_and_no_constraint i v = ((λ h. h), (λ h. h))

no_round_and_one_constraint : AfterSome (the_sum ∷ []) 0 1 zeros zeros
no_round_and_one_constraint = zeros_are_left_of_zeros

one_constraint_does_not_leave_ones : ¬ (AfterSome (the_sum ∷ []) 0 1 ones ones)
one_constraint_does_not_leave_ones = ones_are_not_left_of_ones

-- ---- EachLost

in_no_round_nothing_need_be_lost : (sets : ℕ → ℤ → Type 0) → EachLost (the_sum ∷ []) 0 sets
in_no_round_nothing_need_be_lost sets m lt = absurd (omega arith)

the_first_round_takes_one : EachLost (the_sum ∷ []) 1 ones
the_first_round_takes_one zero lt = record { variable = 0; member = pos 1; was = refl; gone = one_of_ones_goes }
the_first_round_takes_one (suc m) lt = absurd (omega arith)

zeros_lose_none : ¬ (EachLost (the_sum ∷ []) 1 zeros)
zeros_lose_none l = apart (l 0 (omega arith))
  where
    apart : LostMember zeros (narrowed_by (the_sum ∷ []) zeros) → ⊥
    apart m = m.gone (zero_of_zeros_is_kept the_sum m.variable m.member m.was)

-- ---- any_lost

no_flag_is_none : any_lost (record { x = false; y = false; z = false }) ≡ false
no_flag_is_none = refl

the_first_flag_is_enough : any_lost (record { x = true; y = false; z = false }) ≡ true
the_first_flag_is_enough = refl

-- ---- AreSettled

no_constraint_is_settled : (sets : ℕ → ℤ → Type 0) → AreSettled [] [] sets
no_constraint_is_settled sets = record { one_each = refl; fixed = (λ k d lt e. absurd (omega arith)) }

zeros_are_settled : AreSettled (the_sum ∷ []) (true ∷ []) zeros
zeros_are_settled = record { one_each = refl; fixed = here }
  where
    here : (k : ℕ) (d : Constraint) → k < 1 → slice_index_or (true ∷ []) k false ≡ true → IsFixed zeros (slice_index_or (the_sum ∷ []) k d)
    here zero d lt e = zeros_are_fixed the_sum
    here (suc k) d lt e = absurd (omega arith)

a_flag_too_few_is_not : (sets : ℕ → ℤ → Type 0) → ¬ (AreSettled (the_sum ∷ []) [] sets)
a_flag_too_few_is_not sets s = let e = s.one_each in omega arith

ones_may_not_be_settled : ¬ (AreSettled (the_sum ∷ []) (true ∷ []) ones)
ones_may_not_be_settled s = ones_are_not_fixed (s.fixed 0 the_sum (omega arith) refl)

-- ---- AreCleared

where_nothing_changed_flags_may_stay : AreCleared false (the_sum ∷ []) 0 (true ∷ []) (true ∷ [])
where_nothing_changed_flags_may_stay = record { same_count = refl; kept = (λ _. refl); only_cleared = (λ k e. e); apart = (λ e. absurd (false≢true e)) }

a_flag_may_not_be_set : ¬ (AreCleared false (the_sum ∷ []) 0 (false ∷ []) (true ∷ []))
a_flag_may_not_be_set a = false≢true (a.only_cleared 0 refl)

a_flag_may_not_stay_where_x_changed : ¬ (AreCleared true (the_sum ∷ []) 0 (true ∷ []) (true ∷ []))
a_flag_may_not_stay_where_x_changed a = a.apart refl 0 the_sum (omega arith) refl (inl refl)

-- ---- AreLost

nothing_lost_of_zeros : AreLost the_sum (record { x = false; y = false; z = false }) zeros zeros
nothing_lost_of_zeros = record { some = ((λ e. absurd (false≢true e)), (λ l. absurd (l.gone l.was))); others = (λ i _ _ _ v h. h) }

a_loss_is_flagged : ¬ (AreLost the_sum (record { x = false; y = false; z = false }) ones none)
a_loss_is_flagged l = false≢true (l.some.1 (record { variable = 0; member = pos 1; was = refl; gone = (λ h. h) }))

no_flag_without_a_loss : ¬ (AreLost the_sum (record { x = true; y = false; z = false }) ones ones)
no_flag_without_a_loss l = apart (l.some.0 refl)
  where
    apart : LostMember ones ones → ⊥
    apart m = m.gone m.was

-- ---- IsLeftOf

all_members_stay : IsLeftOf (pos 0, pos 9) [] (λ v. ⊥) None
all_members_stay = (record { maximal = tt; within = (λ v h. absurd h) }, (λ v h. h))

a_set_only_where_a_member_is_lost : ¬ (IsLeftOf (pos 0, pos 9) ((pos 1, pos 2) ∷ []) (λ v. ⊥) None)
a_set_only_where_a_member_is_lost l = l.1 (pos 1) (inl (omega (arith, ints), omega (arith, ints)))

the_same_set_is_not_made : (L : List (ℤ × ℤ)) → ¬ (IsLeftOf (pos 0, pos 9) L (λ v. Unit {0}) (Some L))
the_same_set_is_not_made L l = l.3 (λ v. ((λ h. h), (λ h. h)))

-- ---- AreLeftAt

nothing_is_left_of_nothing : AreLeftAt (pos 0, pos 9) the_sum [] None None None
nothing_is_left_of_nothing = record {
  at_x = (λ _ _. (record { maximal = tt; within = (λ v h. absurd h) }, (λ v h. absurd h)));
  at_y = (λ _. (record { maximal = tt; within = (λ v h. absurd h) }, (λ v h. absurd h)));
  at_z = (record { maximal = tt; within = (λ v h. absurd h) }, (λ v h. absurd h));
  x_is_later = (λ e. refl);
  y_is_later = (λ e. refl);
}

x_is_not_made_at_its_first_place : (sets : List (List (ℤ × ℤ))) (left : List (ℤ × ℤ))
    → ¬ (AreLeftAt (pos 0, pos 9) (record { x = 0; y = 0; z = 1 }) sets (Some left) None None)
x_is_not_made_at_its_first_place sets left a = apart (a.x_is_later (inl refl))
  where
    apart : Some left ≡ None → ⊥
    apart e = cc

z_may_not_stay_without_sums : ¬ (AreLeftAt (pos 0, pos 9) the_sum ([] ∷ [] ∷ ((pos 1, pos 1) ∷ []) ∷ []) None None None)
z_may_not_stay_without_sums a = apart (a.at_z.1 (pos 1) (inl (omega (arith, ints), omega (arith, ints))))
  where
    apart : (d : (x : ℤ) × (y : ℤ) × ⊥ × ⊥ × (x +ℤ y ≡ pos 1)) → ⊥
    apart (x, y, n, m, e) = n

-- ---- covers, count_from

two_is_covered : covers ((pos 1, pos 2) ∷ (pos 5, pos 5) ∷ []) (pos 2) ≡ true
two_is_covered = refl

three_is_not_covered : covers ((pos 1, pos 2) ∷ (pos 5, pos 5) ∷ []) (pos 3) ≡ false
three_is_not_covered = refl

nothing_is_covered_by_no_run : covers [] (pos 3) ≡ false
nothing_is_covered_by_no_run = refl

three_are_counted : count_from ((pos 1, pos 2) ∷ (pos 5, pos 5) ∷ []) (pos 0) 6 ≡ 3
unfolding count_from
three_are_counted = refl

what_is_below_is_not_counted : count_from ((pos 1, pos 2) ∷ (pos 5, pos 5) ∷ []) (pos 2) 4 ≡ 2
unfolding count_from
what_is_below_is_not_counted = refl

none_of_no_numbers : count_from ((pos 1, pos 2) ∷ []) (pos 1) 0 ≡ 0
unfolding count_from
none_of_no_numbers = refl

the_first_is_replaced : narrowed_at ([] ∷ [] ∷ []) 0 (Some ((pos 3, pos 3) ∷ [])) ≡ ((pos 3, pos 3) ∷ []) ∷ [] ∷ []
the_first_is_replaced = refl
