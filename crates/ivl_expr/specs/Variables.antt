-- Which variables and products stand in an expression.
--     variables e      the variables, in reading order
--     first_missing count e      the leftmost variable that is not below the count, if there is one
--     occurrences i e, Occurs i e      how often variable i occurs in e; at least once
--     ReadOnce e      no variable occurs twice
--     ShareVariable a b      some variable occurs in both
--     products e, HasProduct e, NoProduct e      how many products occur in e; at least one; none
use Rattle.std.specs.Prelude.{◌≡◌, ℕ, ◌+◌, ◌<◌, ◌≤◌, ◌==◌, nat_le, if◌then◌else◌, List, [], ◌∷◌, ◌++◌, Option, find}
use Rattle.ivl_expr.specs.declared.expr.Expr.{Expr}
use Rattle.ivl_expr.specs.declared.expr.Expr.TheVariants.{Var, Const, Add', Sub', Mul'}

abbrev pub variables : {B : Type 0} → Expr B → List ℕ
variables (Var i) = i ∷ []
variables (Const c) = []
variables (Add' p a q b) = variables a ++ variables b
variables (Sub' p a q b) = variables a ++ variables b
variables (Mul' p a q b) = variables a ++ variables b

abbrev pub first_missing : {B : Type 0} → ℕ → Expr B → Option ℕ
first_missing count e = find (λ i. nat_le count i) (variables e)

abbrev pub occurrences : {B : Type 0} → ℕ → Expr B → ℕ
occurrences i (Var j) = if j == i then 1 else 0
occurrences i (Const c) = 0
occurrences i (Add' p a q b) = occurrences i a + occurrences i b
occurrences i (Sub' p a q b) = occurrences i a + occurrences i b
occurrences i (Mul' p a q b) = occurrences i a + occurrences i b

abbrev pub Occurs : {B : Type 0} → ℕ → Expr B → Type 0
Occurs i e = 0 < occurrences i e

abbrev pub ReadOnce : {B : Type 0} → Expr B → Type 0
ReadOnce e = (i : ℕ) → occurrences i e ≤ 1

pub record ShareVariable {B : Type 0} (a b : Expr B) : Type 0 where
  pub variable : ℕ
  pub in_first : Occurs variable a
  pub in_second : Occurs variable b

abbrev pub products : {B : Type 0} → Expr B → ℕ
products (Var i) = 0
products (Const c) = 0
products (Add' p a q b) = products a + products b
products (Sub' p a q b) = products a + products b
products (Mul' p a q b) = products a + products b + 1

abbrev pub HasProduct : {B : Type 0} → Expr B → Type 0
HasProduct e = 0 < products e

abbrev pub NoProduct : {B : Type 0} → Expr B → Type 0
NoProduct e = products e ≡ 0
