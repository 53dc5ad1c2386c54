-- Examples of posts: what they name, what they cut, and what they leave.
use Rattle.std.proofs.Common.{◌≡◌, ℕ, zero, suc, ◌<◌, inl, inr, refl, arith, List, [], ◌∷◌, true, false}
use Rattle.std.specs.Prelude.{ℤ, pos, Some, None}
use Rattle.std.proofs.lemmas.Bool.{false≢true}
use Rattle.std.proofs.lemmas.Int.{ints}
use Rattle.std.proofs.lemmas.List.Elements.{All-nil}
use Rattle.ivl_laws.specs.Families.{set_at}
use Rattle.ivl_store.specs.declared.store.constraint.Constraint.{Constraint}
use Rattle.ivl_store.specs.declared.store.post.Post.{Post}
use Rattle.ivl_store.specs.declared.store.post.Post.TheVariants.{Restrict, Require}
use Rattle.ivl_store.specs.Solutions.{Supports}
use Rattle.ivl_store.specs.Posts.{constraints_of, OfConstraint, AllAllow, CutBy, IsLeftBy, HasEmpty, AnswersPost, AnswersPosts, IsKnown, unknown_in, first_unknown_post, CutKeeps}

-- posts for sets with bounds and sizes that are natural numbers
abbrev Posted : Type 0
Posted = Post ℕ ℕ

-- x + y = z for variables 0, 1 and 2
abbrev the_sum : Constraint
the_sum = record { x = 0; y = 1; z = 2 }

-- variable 0 keeps the numbers from 1 to 2
abbrev the_cut : Posted
the_cut = Restrict 0 ((pos 1, pos 2) ∷ [])

abbrev the_requirement : Posted
the_requirement = Require the_sum

abbrev one_to_three : List (List (ℤ × ℤ))
one_to_three = ((pos 1, pos 3) ∷ []) ∷ []

-- ---- constraints_of, OfConstraint

no_post_has_no_constraint : constraints_of {B = ℕ} {O = ℕ} [] ≡ []
no_post_has_no_constraint = refl

constraints_keep_their_order : constraints_of (the_cut ∷ Require the_sum ∷ Require (record { x = 5; y = 6; z = 7 }) ∷ []) ≡ the_sum ∷ record { x = 5; y = 6; z = 7 } ∷ []
constraints_keep_their_order = refl

of_a_cut_it_holds : OfConstraint (λ c. ⊥) the_cut
of_a_cut_it_holds = tt

of_a_constraint_it_is_asked : ¬ (OfConstraint (λ c. c.x ≡ 1) the_requirement)
of_a_constraint_it_is_asked e = omega arith

of_the_sum_its_first_is_zero : OfConstraint (λ c. c.x ≡ 0) the_requirement
of_the_sum_its_first_is_zero = refl

-- ---- AllAllow, CutBy

the_cut_allows_two : AllAllow (the_cut ∷ Require the_sum ∷ []) 0 (pos 2)
the_cut_allows_two = ((λ _. inl (omega (arith, ints), omega (arith, ints))), tt)

the_cut_forbids_three : ¬ (AllAllow (the_cut ∷ []) 0 (pos 3))
the_cut_forbids_three a = apart (a.0 refl)
  where
    apart : set_at (((pos 1, pos 2) ∷ []) ∷ []) 0 (pos 3) → ⊥
    apart (inl b) = let u = b.1 in omega (arith, ints)
    apart (inr n) = n

the_cut_allows_another_variable_all : (z : ℤ) → AllAllow (the_cut ∷ []) 1 z
the_cut_allows_another_variable_all z = ((λ e. absurd (omega arith)), tt)

three_is_cut : ¬ (CutBy (the_cut ∷ []) (set_at one_to_three) 0 (pos 3))
three_is_cut c = the_cut_forbids_three c.1

-- ---- IsLeftBy

no_post_leaves_all : (sets : List (List (ℤ × ℤ))) → IsLeftBy {B = ℕ} {O = ℕ} [] (set_at sets) (set_at sets)
no_post_leaves_all sets = record { within = (λ i v h. (h, tt)); supported = All-nil (λ c. Supports c (set_at sets)); greatest = (λ other w s i v h. (w i v h).0) }

the_cut_leaves_what_is_cut : IsLeftBy (the_cut ∷ []) (set_at one_to_three) (CutBy (the_cut ∷ []) (set_at one_to_three))
the_cut_leaves_what_is_cut = record { within = (λ i v h. h); supported = All-nil (λ c. Supports c (CutBy (the_cut ∷ []) (set_at one_to_three))); greatest = (λ other w s. w) }

the_cut_does_not_leave_all : ¬ (IsLeftBy (the_cut ∷ []) (set_at one_to_three) (set_at one_to_three))
the_cut_does_not_leave_all l = three_is_cut (l.within 0 (pos 3) (inl (omega (arith, ints), omega (arith, ints))))

-- ---- HasEmpty

a_missing_set_is_empty : HasEmpty 1 (set_at [])
a_missing_set_is_empty = record { variable = 0; known = omega arith; empty = (λ v h. h) }

-- ---- AnswersPost, AnswersPosts

false_for_no_post : AnswersPost {B = ℕ} {O = ℕ} [] one_to_three false
false_for_no_post = record { family = one_to_three; left = no_post_leaves_all one_to_three; reply_is = ((λ e. absurd (false≢true e)), (λ h. absurd (none_empty h.variable h.known h.empty))) }
  where
    none_empty : (i : ℕ) → i < 1 → ((v : ℤ) → ¬ (set_at one_to_three i v)) → ⊥
    none_empty zero lt none = none (pos 1) (inl (omega (arith, ints), omega (arith, ints)))
    none_empty (suc i) lt none = omega arith

true_for_a_cut_that_leaves_none : AnswersPost {B = ℕ} {O = ℕ} (Restrict 0 [] ∷ []) one_to_three true
true_for_a_cut_that_leaves_none = record {
  family = [];
  left = record {
    within = (λ i v h. absurd h);
    supported = All-nil (λ c. Supports c (set_at []));
    greatest = (λ other w s. none_is_left (set_at other) w);
  };
  reply_is = ((λ _. a_missing_set_is_empty), (λ _. refl));
}
  where
    none_is_left : (other : ℕ → ℤ → Type 0) → ((i : ℕ) (v : ℤ) → other i v → CutBy {B = ℕ} {O = ℕ} (Restrict 0 [] ∷ []) (set_at one_to_three) i v)
        → (i : ℕ) (v : ℤ) → other i v → set_at [] i v
    none_is_left other w zero v h = absurd ((w 0 v h).1.0 refl)
    none_is_left other w (suc i) v h = absurd ((w (suc i) v h).0)

false_is_wrong_for_a_cut_that_leaves_none : ¬ (AnswersPost {B = ℕ} {O = ℕ} (Restrict 0 [] ∷ []) one_to_three false)
false_is_wrong_for_a_cut_that_leaves_none a =
    false≢true (a.reply_is.1 (record { variable = 0; known = omega arith; empty = (λ v h. (a.left.within 0 v h).1.0 refl) }))

true_is_wrong_for_no_post : ¬ (AnswersPost {B = ℕ} {O = ℕ} [] one_to_three true)
true_is_wrong_for_no_post a =
    let h = a.reply_is.0 refl in apart h.variable h.known h.empty
    (a.left.greatest one_to_three (λ i v m. (m, tt)) (All-nil (λ c. Supports c (set_at one_to_three))))
  where
    apart : {family : ℕ → ℤ → Type 0} (i : ℕ) → i < 1 → ((v : ℤ) → ¬ (family i v)) → ((j : ℕ) (v : ℤ) → set_at one_to_three j v → family j v) → ⊥
    apart zero lt none kept = none (pos 1) (kept 0 (pos 1) (inl (omega (arith, ints), omega (arith, ints))))
    apart (suc i) lt none kept = omega arith

no_reply_for_no_post : (old : List (List (ℤ × ℤ))) → AnswersPosts {B = ℕ} {O = ℕ} [] old []
no_reply_for_no_post old = record { one_each = refl; each = (λ k lt. absurd (omega arith)) }

a_reply_too_many : (old : List (List (ℤ × ℤ))) → ¬ (AnswersPosts {B = ℕ} {O = ℕ} [] old (true ∷ []))
a_reply_too_many old a = let e = a.one_each in omega arith

a_reply_too_few : (old : List (List (ℤ × ℤ))) → ¬ (AnswersPosts (the_cut ∷ []) old [])
a_reply_too_few old a = let e = a.one_each in omega arith

-- ---- IsKnown, unknown_in, first_unknown_post

the_cut_is_known_to_one : IsKnown 1 the_cut
the_cut_is_known_to_one = omega arith

the_cut_is_unknown_to_none : ¬ (IsKnown 0 the_cut)
the_cut_is_unknown_to_none k = omega arith

the_sum_is_known_to_three : IsKnown 3 the_requirement
the_sum_is_known_to_three = (omega arith, omega arith, omega arith)

the_index_of_a_cut : unknown_in 0 the_cut ≡ Some 0
the_index_of_a_cut = refl

an_index_of_a_sum : unknown_in 2 the_requirement ≡ Some 2
an_index_of_a_sum = refl

no_index_of_a_known_cut : unknown_in 1 the_cut ≡ None
no_index_of_a_known_cut = refl

all_posts_are_known : first_unknown_post 3 (the_cut ∷ Require the_sum ∷ []) ≡ None
all_posts_are_known = refl

the_sum_may_be_the_first : first_unknown_post 1 (the_cut ∷ Require the_sum ∷ Restrict 9 [] ∷ []) ≡ Some 1
the_sum_may_be_the_first = refl

-- ---- CutKeeps

the_same_sets_keep_what_is_cut : (constraints : List Constraint) (posts : List Posted) (sets : List (List (ℤ × ℤ))) → CutKeeps constraints posts sets sets
the_same_sets_keep_what_is_cut constraints posts sets = record { within = (λ i v h. h); families = (λ family s w i v h. (w i v h).0) }

no_new_member_may_come : ¬ (CutKeeps {B = ℕ} {O = ℕ} [] [] [] one_to_three)
no_new_member_may_come k = k.within 0 (pos 1) (inl (omega (arith, ints), omega (arith, ints)))

no_member_may_go_without_a_reason : ¬ (CutKeeps {B = ℕ} {O = ℕ} [] [] one_to_three [])
no_member_may_go_without_a_reason k =
    k.families one_to_three (All-nil (λ c. Supports c (set_at one_to_three))) (λ i v h. (h, tt)) 0 (pos 1) (inl (omega (arith, ints), omega (arith, ints)))
