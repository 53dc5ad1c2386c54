use Rattle.std.proofs.Common.{inl, length}
use Rattle.ivl_upper_pins.proofs.Small.{missing_left}
use Rattle.ivl_upper_pins.proofs.expr.answers.leftmost_of_two_missing.Goals as goal

pub returns : goal.returns
returns g c = λ h. inl ((c.eval.ensures.missing c.args.i).1
    (missing_left (length c.args.sets.now) c.args.i c.in_ok-operand.field-0.value c.in_ok-operand-2.field-0.value c.in_ok-operand.ensures h))
