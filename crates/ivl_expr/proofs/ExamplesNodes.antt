-- Examples of node sets over whole numbers, where a constant stands for itself.
use Rattle.std.proofs.Common.{◌≡◌, inl, inr, ⊎_elim, ℤ, pos, negsuc, List, [], ◌∷◌, refl, subst, arith}
use Rattle.std.proofs.lemmas.Int.{ints}
use Rattle.std.proofs.lemmas.List.Elements.{All-cons, All-head, All-nil}
use Rattle.ivl_laws.specs.Sets.{InOneRun, IsBetween, IsSubset, Only, Products}
use Rattle.ivl_laws.specs.Runs.{Covers}
use Rattle.ivl_laws.specs.Families.{set_at}
use Rattle.ivl_laws.proofs.Products.{both_covered, run_ends}
use Rattle.ivl_expr.specs.declared.expr.Expr.TheVariants.{Var, Const, Add', Sub', Mul'}
use Rattle.ivl_expr.specs.Nodes.{AllNodesIn, HoldsNodes, JoinsProducts, Node, SomeNodeOutside, subexpressions}
use Rattle.ivl_expr.specs.NodeSets.{VariablesBelow}
use Rattle.ivl_expr.proofs.Least.{nodes_are_held, products_are_joined}

abbrev itself : ℤ → ℤ
itself c = c

-- {[0..1]} and {[3..5]}
abbrev sets : List (List (ℤ × ℤ))
sets = ((pos 0, pos 1) ∷ []) ∷ ((pos 3, pos 5) ∷ []) ∷ []

-- ---- Node

-- 1 + 5
six_is_in_the_sum : (p q : _) → Node itself (Add' p (Var 0) q (Var 1)) (set_at sets) (pos 6)
six_is_in_the_sum p q = (pos 1, pos 5, inl (omega (arith, ints), omega (arith, ints)), inl (omega (arith, ints), omega (arith, ints)), refl)

-- between 0 * 3 and 1 * 3, and no product
two_is_in_the_product : (p q : _) → Node itself (Mul' p (Var 0) q (Var 1)) (set_at sets) (pos 2)
two_is_in_the_product p q = (
  pos 0,
  pos 1,
  pos 3,
  pos 3,
  both_covered ((pos 0, pos 1) ∷ []) (pos 0) (pos 1) (inl ((omega (arith, ints), omega (arith, ints)), (omega (arith, ints), omega (arith, ints)))),
  both_covered ((pos 3, pos 5) ∷ []) (pos 3) (pos 3) (inl ((omega (arith, ints), omega (arith, ints)), (omega (arith, ints), omega (arith, ints)))),
  omega (arith, ints),
  omega (arith, ints),
)

seven_is_not_in_the_sum : (p q : _) → ¬ (Node itself (Add' p (Var 0) q (Var 1)) (set_at sets) (pos 7))
seven_is_not_in_the_sum p q (x, y, inl (a, b), inl (c, d), e) = omega (arith, ints)
seven_is_not_in_the_sum p q (x, y, inr n, t, e) = n
seven_is_not_in_the_sum p q (x, y, inl b, inr n, e) = n

-- ---- subexpressions

one_and_its_operands : (p q : _) → subexpressions {B = ℤ} (Add' p (Var 0) q (Const (pos 1))) ≡ Add' p (Var 0) q (Const (pos 1)) ∷ Var 0 ∷ Const (pos 1) ∷ []
one_and_its_operands p q = refl

a_variable_alone : subexpressions {B = ℤ} (Var 3) ≡ Var 3 ∷ []
a_variable_alone = refl

a_constant_alone : subexpressions (Const (pos 1)) ≡ Const (pos 1) ∷ []
a_constant_alone = refl

-- ---- AllNodesIn

a_set_in_the_range : AllNodesIn (pos 0, pos 9) itself (Var 1) (set_at sets)
a_set_in_the_range = All-cons (λ n. IsSubset (Node itself n (set_at sets)) (IsBetween (pos 0, pos 9))) (Var 1) []
    (λ z. ⊎_elim (λ (low, high). (omega (arith, ints), omega (arith, ints))) (λ n. absurd n))
    (All-nil (λ n. IsSubset (Node itself n (set_at sets)) (IsBetween (pos 0, pos 9))))

the_greatest_constant : AllNodesIn (pos 0, pos 9) itself (Const (pos 9)) (set_at sets)
the_greatest_constant = All-cons (λ n. IsSubset (Node itself n (set_at sets)) (IsBetween (pos 0, pos 9))) (Const (pos 9)) []
    (λ z e. (omega (arith, ints), omega (arith, ints)))
    (All-nil (λ n. IsSubset (Node itself n (set_at sets)) (IsBetween (pos 0, pos 9))))

a_constant_above : ¬ (AllNodesIn (pos 0, pos 9) itself (Const (pos 10)) (set_at sets))
a_constant_above h = let u = (All-head (λ n. IsSubset (Node itself n (set_at sets)) (IsBetween (pos 0, pos 9))) (Const (pos 10)) [] h (pos 10) refl).1 in omega (arith, ints)

-- ---- SomeNodeOutside

-- 0 - 3
a_difference_below_the_range : (p q : _) → SomeNodeOutside (pos 0, pos 9) itself (Sub' p (Var 0) q (Var 1)) (set_at sets)
a_difference_below_the_range p q = (
  Sub' p (Var 0) q (Var 1),
  inl refl,
  (negsuc 2, ((pos 0, pos 3, inl (omega (arith, ints), omega (arith, ints)), inl (omega (arith, ints), omega (arith, ints)), refl), λ (low, high). omega (arith, ints))),
)

-- beside a set with no member
a_constant_beside_an_empty_set : (p q : _) → SomeNodeOutside (pos 0, pos 9) itself (Mul' p (Var 2) q (Const (pos 10))) (set_at sets)
a_constant_beside_an_empty_set p q = (Const (pos 10), inr (inr (inl refl)), (pos 10, (refl, λ (low, high). omega (arith, ints))))

no_node_outside_at_the_end_of_the_range : ¬ (SomeNodeOutside (pos 0, pos 9) itself (Const (pos 9)) (set_at sets))
no_node_outside_at_the_end_of_the_range (n, inl is, (z, (m, out))) =
    let nine : z ≡ pos 9 = subst (λ d. Node itself d (set_at sets) z) is m in
    out (omega (arith, ints), omega (arith, ints))
no_node_outside_at_the_end_of_the_range (n, inr i, out) = i

-- ---- VariablesBelow

both_variables_have_sets : (p q : _) → VariablesBelow {B = ℤ} 2 (Add' p (Var 0) q (Var 1))
both_variables_have_sets p q = (omega arith, omega arith)

constants_ask_for_none : VariablesBelow 0 (Const (pos 1))
constants_ask_for_none = tt

the_count_itself_is_missing : ¬ (VariablesBelow {B = ℤ} 2 (Var 2))
the_count_itself_is_missing h = omega arith

-- ---- JoinsProducts

the_products_of_two_intervals : JoinsProducts (IsBetween (pos 2, pos 2)) (IsBetween (pos 5, pos 6)) (Products (IsBetween (pos 2, pos 2)) (IsBetween (pos 5, pos 6)))
the_products_of_two_intervals = products_are_joined (IsBetween (pos 2, pos 2)) (IsBetween (pos 5, pos 6))

-- 11 lies between 2 * 5 and 2 * 6
the_exact_products_are_not_joined : ¬ (JoinsProducts (Only (pos 2)) (IsBetween (pos 5, pos 6)) (Covers ((pos 10, pos 10) ∷ (pos 12, pos 12) ∷ [])))
the_exact_products_are_not_joined h = missing (h (pos 2) (pos 2) (pos 5) (pos 6) two five_to_six (pos 11) (inl (omega (arith, ints), omega (arith, ints))))
  where
    two : InOneRun (Only (pos 2)) (pos 2) (pos 2)
    two z = ⊎_elim (λ (low, high). omega (arith, ints)) (λ (low, high). omega (arith, ints))

    five_to_six : InOneRun (IsBetween (pos 5, pos 6)) (pos 5) (pos 6)
    five_to_six z = ⊎_elim (λ c. c) (λ (low, high). (omega (arith, ints), omega (arith, ints)))

    missing : ¬ (Covers ((pos 10, pos 10) ∷ (pos 12, pos 12) ∷ []) (pos 11))
    missing (inl (low, high)) = omega (arith, ints)
    missing (inr (inl (low, high))) = omega (arith, ints)
    missing (inr (inr n)) = n

nothing_to_join_with_an_empty_set : JoinsProducts (IsBetween (pos 2, pos 1)) (IsBetween (pos 5, pos 6)) (λ z. ⊥)
nothing_to_join_with_an_empty_set x x' y y' r s z b = let (low, high) = (run_ends (IsBetween (pos 2, pos 1)) x x' r).0 in omega (arith, ints)

-- ---- HoldsNodes

node_sets_hold_what_they_are_made_of : HoldsNodes itself (λ e. Node itself e (set_at sets)) (set_at sets)
node_sets_hold_what_they_are_made_of = nodes_are_held itself (set_at sets)

all_numbers_hold_every_node : HoldsNodes itself (λ e z. Unit {0}) (set_at sets)
all_numbers_hold_every_node = record { variable = (λ i z m. tt); constant = (λ c z m. tt); sum = (λ p a q b z m. tt); difference = (λ p a q b z m. tt); product = (λ p a q b x x' y y' r s z m. tt) }

no_number_holds_no_constant : ¬ (HoldsNodes itself (λ e z. ⊥) (set_at sets))
no_number_holds_no_constant h = h.constant (pos 1) (pos 1) refl
