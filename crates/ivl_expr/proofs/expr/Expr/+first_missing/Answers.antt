use Rattle.std.proofs.Common.{◌∙◌, ap}
use Rattle.ivl_expr.specs.Variables.{first_missing}
use Rattle.ivl_expr.proofs.Pairs.{IsPair-from, missing_first, missing_second}
use Rattle.ivl_expr.proofs.expr.Expr.+first_missing.Goals as goal

pub returns-in-Some : goal.returns-in-Some
returns-in-Some g t c =
    let p = IsPair-from c.args.self.now c.in-Add.a c.in-Add.b c.in-Add.is in
    missing_first c.args.count c.args.self.now c.in-Add.a.value c.in-Add.b.value p c.in-Some.i (c.in-Some.ensures ∙ ap (first_missing c.args.count) c.deref.ensures)

pub returns-in-None : goal.returns-in-None
returns-in-None g t c =
    let p = IsPair-from c.args.self.now c.in-Add.a c.in-Add.b c.in-Add.is in
    c.first_missing-in-None.ensures ∙ ap (first_missing c.args.count) c.deref-in-None.ensures
    ∙ missing_second c.args.count c.args.self.now c.in-Add.a.value c.in-Add.b.value p (c.in-None.ensures ∙ ap (first_missing c.args.count) c.deref.ensures)
