-- The numbers that an expression takes.
--     value_at number e point      the value of e if variable `i` has the value `point i`, by ordinary arithmetic
--     Values number e sets      the values of e over all points whose entry for each variable that occurs is a member
--         of its set
use Rattle.std.specs.Prelude.{◌≡◌, ℕ, ℤ, ◌+ℤ◌, ◌-ℤ◌, ◌*ℤ◌}
use Rattle.ivl_expr.specs.Variables.{Occurs}
use Rattle.ivl_expr.specs.declared.expr.Expr.{Expr}
use Rattle.ivl_expr.specs.declared.expr.Expr.TheVariants.{Var, Const, Add', Sub', Mul'}

abbrev pub value_at : {B : Type 0} → (B → ℤ) → Expr B → (ℕ → ℤ) → ℤ
value_at number (Var i) point = point i
value_at number (Const c) point = number c
value_at number (Add' p a q b) point = value_at number a point +ℤ value_at number b point
value_at number (Sub' p a q b) point = value_at number a point -ℤ value_at number b point
value_at number (Mul' p a q b) point = value_at number a point *ℤ value_at number b point

-- an entry counts only where its variable occurs
pub record Values {B : Type 0} (number : B → ℤ) (e : Expr B) (sets : ℕ → ℤ → Type 0) (z : ℤ) : Type 0 where
  pub point : ℕ → ℤ
  pub within : (i : ℕ) → Occurs i e → sets i (point i)
  pub value : value_at number e point ≡ z
