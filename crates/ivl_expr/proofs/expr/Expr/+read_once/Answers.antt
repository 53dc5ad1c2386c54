use Rattle.std.proofs.Common.{◌≡◌, ◌↔◌, IsTrue, Bool, subst, sym, ◌∙◌}
use Rattle.std.proofs.lemmas.Bool.{iff_false, both_ways}
use Rattle.ivl_expr.specs.Variables.{ReadOnce, ShareVariable}
use Rattle.ivl_expr.specs.declared.expr.Expr.{Expr}
use Rattle.ivl_expr.proofs.Pairs.{IsPair-from, tests_once, tests_not_once}
use Rattle.ivl_expr.proofs.expr.Expr.+read_once.Goals as goal
use Rattle.ivl_expr.proofs.expr.Expr.+read_once.Goals.{then-read_once, else-read_once}

-- a test of one expression is a test of an equal one
test_at : {B : Type 0} (t : Bool) (d e : Expr B) → d ≡ e → IsTrue t ↔ ReadOnce d → IsTrue t ↔ ReadOnce e
test_at t d e same h = subst (λ x. IsTrue t ↔ ReadOnce x) same h

share_at : {B : Type 0} (t : Bool) (a a' b b' : Expr B) → a ≡ a' → b ≡ b' → IsTrue t ↔ ShareVariable a b → IsTrue t ↔ ShareVariable a' b'
share_at t a a' b b' e f h = subst (λ x. IsTrue t ↔ ShareVariable a' x) f (subst (λ x. IsTrue t ↔ ShareVariable x b) e h)

pub returns-then-read_once-2 : goal.returns-then-read_once-2
returns-then-read_once-2 g t c =
    let p = IsPair-from c.args.self.now c.in-Add.a c.in-Add.b c.in-Add.is in
    let first = test_at _ _ _ c.deref.ensures c.read_once.ensures in
    let shared = share_at _ _ _ _ _ c.deref-then-read_once-2.ensures c.deref-then-read_once-2-2.ensures c.shares.ensures in
    elim c.if-read_once.branch [
      | then-read_once w ↦ tests_once _ _ _ p _ _ _ first (test_at _ _ _ w.deref-then-read_once.ensures w.read_once-then-read_once.ensures) shared
          w.if-read_once.true (sym w.value-is ∙ c.if-read_once-2.true)
      | else-read_once w ↦ absurd (both_ways _ w.if-read_once.false (sym w.value-is ∙ c.if-read_once-2.true))
    ]

pub returns-else-read_once-2 : goal.returns-else-read_once-2
returns-else-read_once-2 g t c =
    let p = IsPair-from c.args.self.now c.in-Add.a c.in-Add.b c.in-Add.is in
    let first = test_at _ _ _ c.deref.ensures c.read_once.ensures in
    elim c.if-read_once.branch [
      | then-read_once w ↦ tests_not_once _ _ _ p _ c.if-read_once-2.false
          (λ a b. iff_false (test_at _ _ _ w.deref-then-read_once.ensures w.read_once-then-read_once.ensures) (sym w.value-is ∙ c.if-read_once-2.false) b)
      | else-read_once w ↦ tests_not_once _ _ _ p _ c.if-read_once-2.false (λ a b. iff_false first w.if-read_once.false a)
    ]
