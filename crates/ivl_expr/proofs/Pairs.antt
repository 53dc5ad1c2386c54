-- What stands in a sum, difference or product, by its two operands.
use Rattle.std.proofs.Common.{◌≡◌, ◌↔◌, ℕ, zero, suc, ◌+◌, ◌<◌, ◌⊎◌, ⊎_elim, inl, inr, ap, arith, IsTrue, Bool, true, false, ◌∷◌, ◌++◌, Option, Some, None, Box, Global, ◌∙◌, sym, subst, refl, cond, leb}
use Rattle.std.proofs.lemmas.Bool.{iff_false, not-true, cases_Bool, both_ways}
use Rattle.std.proofs.lemmas.Bool.Decides.{nat_tests}
use Rattle.std.proofs.lemmas.List.Folds.{find-append}
use Rattle.std.specs.Option.{option_or}
use Rattle.std.specs.Prelude.{find, nat_le}
use mathlib.Core.Bool.{not}
use Rattle.intervallum.proofs.Options.{or_none}
use Rattle.ivl_expr.specs.declared.expr.Expr.{Expr}
use Rattle.ivl_expr.specs.declared.expr.Expr.TheViews.{Add, Sub, Mul}
use Rattle.ivl_expr.specs.declared.expr.Expr.TheVariants.{Var, Const, Add', Sub', Mul'}
use Rattle.ivl_expr.specs.Nodes.{subexpressions}
use Rattle.ivl_expr.specs.NodeSets.{VariablesBelow}
use Rattle.ivl_expr.specs.Variables.{variables, first_missing, occurrences, ReadOnce, ShareVariable}

-- the variables of e are those of a and then those of b
pub record IsPair {B : Type 0} (e a b : Expr B) : Type 0 where
  pub counted : (i : ℕ) → occurrences i e ≡ occurrences i a + occurrences i b
  pub listed : variables e ≡ variables a ++ variables b
  pub nodes : subexpressions e ≡ e ∷ (subexpressions a ++ subexpressions b)

pub IsPair-from : {B : Type 0} (e : Expr B) (a b : Box (Expr B) Global) → (e ≡ Add a b) ⊎ ((e ≡ Sub a b) ⊎ (e ≡ Mul a b)) → IsPair e a.value b.value
IsPair-from e a b = ⊎_elim
    (λ h. subst (λ d. IsPair d a.value b.value) (sym h) here_sum)
    (⊎_elim (λ h. subst (λ d. IsPair d a.value b.value) (sym h) here_difference) (λ h. subst (λ d. IsPair d a.value b.value) (sym h) here_product))
  where
    here_sum : IsPair (Add a b) a.value b.value
    here_sum = record { counted = (λ i. refl); listed = refl; nodes = refl }

    here_difference : IsPair (Sub a b) a.value b.value
    here_difference = record { counted = (λ i. refl); listed = refl; nodes = refl }

    here_product : IsPair (Mul a b) a.value b.value
    here_product = record { counted = (λ i. refl); listed = refl; nodes = refl }

-- ---- read once: both operands are, and they share no variable

module _ {B : Type 0} (e a b : Expr B) (p : IsPair e a b) where
  pub ReadOnce-pair : ReadOnce a → ReadOnce b → (¬ (ShareVariable a b)) → ReadOnce e
  ReadOnce-pair h k apart i =
      let u = p.counted i in
      let v = h i in
      let w = k i in
      elim (either_none (occurrences i a) (occurrences i b)) [
        | inl both ↦ absurd (apart (record { variable = i; in_first = both.0; in_second = both.1 }))
        | inr n ↦ elim n [ inl z ↦ omega arith | inr z ↦ omega arith ]
      ]
    where
      either_none : (m n : ℕ) → ((0 < m) × (0 < n)) ⊎ ((m ≡ 0) ⊎ (n ≡ 0))
      either_none zero n = inr (inl refl)
      either_none (suc m) zero = inr (inr refl)
      either_none (suc m) (suc n) = inl (omega arith, omega arith)

  pub ReadOnce-parts : ReadOnce e → ReadOnce a × ReadOnce b × (¬ (ShareVariable a b))
  ReadOnce-parts h = (
    (λ i. let u = p.counted i in let v = h i in omega arith),
    (λ i. let u = p.counted i in let v = h i in omega arith),
    (λ s. let u = p.counted s.variable in let v = h s.variable in let w = s.in_first in let x = s.in_second in omega arith),
  )

  -- the test of a pair, where both operands are read once
  pub tests_once : (first second shared : Bool) → (IsTrue first ↔ ReadOnce a) → (IsTrue second ↔ ReadOnce b) → (IsTrue shared ↔ ShareVariable a b)
      → first ≡ true → second ≡ true → IsTrue (not shared) ↔ ReadOnce e
  tests_once first second shared f s h first_true second_true = (
    (λ t. ReadOnce-pair (f.0 first_true) (s.0 second_true) (iff_false h (not-true shared t))),
    (λ once. let parts = ReadOnce-parts once in ⊎_elim (λ t. absurd (parts.2 (h.0 t))) (λ f. ap not f) (cases_Bool shared)),
  )

  -- and where one is not
  pub tests_not_once : (test : Bool) → test ≡ false → (ReadOnce a → ReadOnce b → ⊥) → IsTrue test ↔ ReadOnce e
  tests_not_once test f none = (
    (λ t. absurd (both_ways test f t)),
    (λ once. let parts = ReadOnce-parts once in absurd (none parts.0 parts.1)),
  )

-- ---- the leftmost missing variable: that of the first operand, or else that of the second

module _ {B : Type 0} (count : ℕ) (e a b : Expr B) (p : IsPair e a b) where
  missing-pair : first_missing count e ≡ option_or (first_missing count a) (first_missing count b)
  missing-pair = ap (find (λ j. nat_le count j)) p.listed ∙ find-append (λ j. nat_le count j) (variables a) (variables b)

  pub missing_first : (i : ℕ) → Some i ≡ first_missing count a → Some i ≡ first_missing count e
  missing_first i h = sym (missing-pair ∙ ap (λ o. option_or o (first_missing count b)) (sym h))

  pub missing_second : None ≡ first_missing count a → first_missing count b ≡ first_missing count e
  missing_second h = sym (missing-pair ∙ ap (λ o. option_or o (first_missing count b)) (sym h))

  none_missing : first_missing count e ≡ None → (first_missing count a ≡ None) × (first_missing count b ≡ None)
  none_missing h = or_none _ _ (sym missing-pair ∙ h)

-- where no variable is missing, each is present
pub all_present : {B : Type 0} (count : ℕ) (e : Expr B) → first_missing count e ≡ None → VariablesBelow count e
all_present count (Var i) h = present count i h
  where
    present : (count i : ℕ) → cond (leb count i) (Some i) None ≡ None → i < count
    present count i h = grind (arith, nat_tests)
all_present count (Const c) h = tt
all_present count (Add' p a q b) h =
    let n = none_missing count (Add' p a q b) a b (record { counted = (λ i. refl); listed = refl; nodes = refl }) h in (all_present count a n.0, all_present count b n.1)
all_present count (Sub' p a q b) h =
    let n = none_missing count (Sub' p a q b) a b (record { counted = (λ i. refl); listed = refl; nodes = refl }) h in (all_present count a n.0, all_present count b n.1)
all_present count (Mul' p a q b) h =
    let n = none_missing count (Mul' p a q b) a b (record { counted = (λ i. refl); listed = refl; nodes = refl }) h in (all_present count a n.0, all_present count b n.1)
