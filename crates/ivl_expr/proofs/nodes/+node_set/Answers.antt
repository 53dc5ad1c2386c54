use Rattle.std.proofs.Common.{inl, inr, Err, sym, ap}
use Rattle.ivl_laws.specs.Families.{set_at}
use Rattle.ivl_expr.specs.NodeSets.{runs_of}
use Rattle.ivl_expr.proofs.Walks.{constant_node, constant_outside, difference_node, difference_outside, left_outside, lent_node, passed_on, product_node, product_outside, right_outside, sum_node, sum_outside}
use Rattle.ivl_expr.proofs.nodes.+node_set.Goals as goal

pub returns-in-Var-clause-is : goal.returns-in-Var-clause-is
returns-in-Var-clause-is g t c = lent_node g.B.Width.whole g.B.Width.value c.args.sets.now c.args.expr.now c.in-Var.i (runs_of c.lend.result) c.index-sets-i.result
    c.in-Var.is c.requires c.index-sets-i.is c.lend.ensures.lent c.lend.ensures.runs

pub returns-in_err-constant-in-Const-clause-range : goal.returns-in_err-constant-in-Const-clause-range
returns-in_err-constant-in-Const-clause-range g t c = λ is. constant_outside g.B.Width.whole g.B.Width.value (set_at c.args.sets.now) c.args.expr.now c.in-Const.c c.in-Const.is
    (c.in_err-constant-in-Const.ensures.range (ap Err (sym (passed_on _ _ _ c.from_residual.ensures.1 is))))

pub returns-in_ok-constant-in-Const-clause-is : goal.returns-in_ok-constant-in-Const-clause-is
returns-in_ok-constant-in-Const-clause-is g t c = constant_node g.B.Width.whole g.B.Width.value (set_at c.args.sets.now) c.args.expr.now c.in-Const.c _ c.in-Const.is c.in_ok-constant-in-Const.ensures.members c.in_ok-constant-in-Const.ensures.within

pub returns-in_err-left-in-Add-clause-range : goal.returns-in_err-left-in-Add-clause-range
returns-in_err-left-in-Add-clause-range g t c = λ is. left_outside g.B.Width.whole g.B.Width.value (set_at c.args.sets.now) c.args.expr.now c.deref.result.now c.in-Add.a c.in-Add.b (inl c.in-Add.is) c.deref.ensures
    (c.in_err-left-in-Add.ensures.range (ap Err (sym (passed_on _ _ _ c.from_residual-in_err-left-in-Add.ensures.1 is))))

pub returns-in_err-right-in-Add-clause-range : goal.returns-in_err-right-in-Add-clause-range
returns-in_err-right-in-Add-clause-range g t c = λ is. right_outside g.B.Width.whole g.B.Width.value (set_at c.args.sets.now) c.args.expr.now c.deref-in-Add.result.now c.in-Add.a c.in-Add.b (inl c.in-Add.is) c.deref-in-Add.ensures
    (c.in_err-right-in-Add.ensures.range (ap Err (sym (passed_on _ _ _ c.from_residual-in_err-right-in-Add.ensures.1 is))))

pub returns-in_err-sum-in-Add-clause-range : goal.returns-in_err-sum-in-Add-clause-range
returns-in_err-sum-in-Add-clause-range g t c = λ is. sum_outside g.B.Width.whole g.B.Width.value (set_at c.args.sets.now) c.args.expr.now c.deref.result.now c.deref-in-Add.result.now c.in-Add.a c.in-Add.b c.as_set.result.now (runs_of c.in_ok-left-in-Add.left) c.as_set-in-Add.result.now (runs_of c.in_ok-right-in-Add.right)
    c.deref.ensures c.deref-in-Add.ensures c.as_set.ensures c.as_set-in-Add.ensures c.in_ok-left-in-Add.ensures.is c.in_ok-right-in-Add.ensures.is
    c.in-Add.is (c.in_err-sum-in-Add.ensures.range (ap Err (sym (passed_on _ _ _ c.from_residual-in_err-sum-in-Add.ensures.1 is))))

pub returns-in_ok-sum-in-Add-clause-is : goal.returns-in_ok-sum-in-Add-clause-is
returns-in_ok-sum-in-Add-clause-is g t c = sum_node g.B.Width.whole g.B.Width.value (set_at c.args.sets.now) c.args.expr.now c.deref.result.now c.deref-in-Add.result.now c.in-Add.a c.in-Add.b c.as_set.result.now (runs_of c.in_ok-left-in-Add.left) c.as_set-in-Add.result.now (runs_of c.in_ok-right-in-Add.right)
    c.deref.ensures c.deref-in-Add.ensures c.as_set.ensures c.as_set-in-Add.ensures c.in_ok-left-in-Add.ensures.is c.in_ok-right-in-Add.ensures.is
    _ c.in-Add.is c.in_ok-sum-in-Add.ensures.within c.in_ok-sum-in-Add.ensures.members

pub returns-in_err-left-in-Sub-clause-range : goal.returns-in_err-left-in-Sub-clause-range
returns-in_err-left-in-Sub-clause-range g t c = λ is. left_outside g.B.Width.whole g.B.Width.value (set_at c.args.sets.now) c.args.expr.now c.deref-in-Sub.result.now c.in-Sub.a c.in-Sub.b (inr (inl c.in-Sub.is)) c.deref-in-Sub.ensures
    (c.in_err-left-in-Sub.ensures.range (ap Err (sym (passed_on _ _ _ c.from_residual-in_err-left-in-Sub.ensures.1 is))))

pub returns-in_err-right-in-Sub-clause-range : goal.returns-in_err-right-in-Sub-clause-range
returns-in_err-right-in-Sub-clause-range g t c = λ is. right_outside g.B.Width.whole g.B.Width.value (set_at c.args.sets.now) c.args.expr.now c.deref-in-Sub-2.result.now c.in-Sub.a c.in-Sub.b (inr (inl c.in-Sub.is)) c.deref-in-Sub-2.ensures
    (c.in_err-right-in-Sub.ensures.range (ap Err (sym (passed_on _ _ _ c.from_residual-in_err-right-in-Sub.ensures.1 is))))

pub returns-in_err-difference-in-Sub-clause-range : goal.returns-in_err-difference-in-Sub-clause-range
returns-in_err-difference-in-Sub-clause-range g t c = λ is. difference_outside g.B.Width.whole g.B.Width.value (set_at c.args.sets.now) c.args.expr.now c.deref-in-Sub.result.now c.deref-in-Sub-2.result.now c.in-Sub.a c.in-Sub.b c.as_set-in-Sub.result.now (runs_of c.in_ok-left-in-Sub.left) c.as_set-in-Sub-2.result.now (runs_of c.in_ok-right-in-Sub.right)
    c.deref-in-Sub.ensures c.deref-in-Sub-2.ensures c.as_set-in-Sub.ensures c.as_set-in-Sub-2.ensures c.in_ok-left-in-Sub.ensures.is c.in_ok-right-in-Sub.ensures.is
    c.in-Sub.is (c.in_err-difference-in-Sub.ensures.range (ap Err (sym (passed_on _ _ _ c.from_residual-in_err-difference-in-Sub.ensures.1 is))))

pub returns-in_ok-difference-in-Sub-clause-is : goal.returns-in_ok-difference-in-Sub-clause-is
returns-in_ok-difference-in-Sub-clause-is g t c = difference_node g.B.Width.whole g.B.Width.value (set_at c.args.sets.now) c.args.expr.now c.deref-in-Sub.result.now c.deref-in-Sub-2.result.now c.in-Sub.a c.in-Sub.b c.as_set-in-Sub.result.now (runs_of c.in_ok-left-in-Sub.left) c.as_set-in-Sub-2.result.now (runs_of c.in_ok-right-in-Sub.right)
    c.deref-in-Sub.ensures c.deref-in-Sub-2.ensures c.as_set-in-Sub.ensures c.as_set-in-Sub-2.ensures c.in_ok-left-in-Sub.ensures.is c.in_ok-right-in-Sub.ensures.is
    _ c.in-Sub.is c.in_ok-difference-in-Sub.ensures.within c.in_ok-difference-in-Sub.ensures.members

pub returns-in_err-left-in-Mul-clause-range : goal.returns-in_err-left-in-Mul-clause-range
returns-in_err-left-in-Mul-clause-range g t c = λ is. left_outside g.B.Width.whole g.B.Width.value (set_at c.args.sets.now) c.args.expr.now c.deref-in-Mul.result.now c.in-Mul.a c.in-Mul.b (inr (inr c.in-Mul.is)) c.deref-in-Mul.ensures
    (c.in_err-left-in-Mul.ensures.range (ap Err (sym (passed_on _ _ _ c.from_residual-in_err-left-in-Mul.ensures.1 is))))

pub returns-in_err-right-in-Mul-clause-range : goal.returns-in_err-right-in-Mul-clause-range
returns-in_err-right-in-Mul-clause-range g t c = λ is. right_outside g.B.Width.whole g.B.Width.value (set_at c.args.sets.now) c.args.expr.now c.deref-in-Mul-2.result.now c.in-Mul.a c.in-Mul.b (inr (inr c.in-Mul.is)) c.deref-in-Mul-2.ensures
    (c.in_err-right-in-Mul.ensures.range (ap Err (sym (passed_on _ _ _ c.from_residual-in_err-right-in-Mul.ensures.1 is))))

pub returns-in_err-product-in-Mul-clause-range : goal.returns-in_err-product-in-Mul-clause-range
returns-in_err-product-in-Mul-clause-range g t c = λ is. product_outside g.B.Width.whole g.B.Width.value (set_at c.args.sets.now) c.args.expr.now c.deref-in-Mul.result.now c.deref-in-Mul-2.result.now c.in-Mul.a c.in-Mul.b c.as_set-in-Mul.result.now (runs_of c.in_ok-left-in-Mul.left) c.as_set-in-Mul-2.result.now (runs_of c.in_ok-right-in-Mul.right)
    c.deref-in-Mul.ensures c.deref-in-Mul-2.ensures c.as_set-in-Mul.ensures c.as_set-in-Mul-2.ensures c.in_ok-left-in-Mul.ensures.is c.in_ok-right-in-Mul.ensures.is
    c.in-Mul.is (c.in_err-product-in-Mul.ensures.range (ap Err (sym (passed_on _ _ _ c.from_residual-in_err-product-in-Mul.ensures.1 is))))

pub returns-in_ok-product-in-Mul-clause-is : goal.returns-in_ok-product-in-Mul-clause-is
returns-in_ok-product-in-Mul-clause-is g t c = product_node g.B.Width.whole g.B.Width.value (set_at c.args.sets.now) c.args.expr.now c.deref-in-Mul.result.now c.deref-in-Mul-2.result.now c.in-Mul.a c.in-Mul.b c.as_set-in-Mul.result.now (runs_of c.in_ok-left-in-Mul.left) c.as_set-in-Mul-2.result.now (runs_of c.in_ok-right-in-Mul.right)
    c.deref-in-Mul.ensures c.deref-in-Mul-2.ensures c.as_set-in-Mul.ensures c.as_set-in-Mul-2.ensures c.in_ok-left-in-Mul.ensures.is c.in_ok-right-in-Mul.ensures.is
    _ c.in-Mul.is c.in_ok-product-in-Mul.ensures.within c.in_ok-product-in-Mul.ensures.members
