use Rattle.ivl_upper_pins.proofs.Small.{read_once_of_two}
use Rattle.ivl_upper_pins.proofs.expr.shapes.difference_is_read_once.Goals as goal

pub returns : goal.returns
returns g c =
    let two = read_once_of_two c.in_ok-operand.field-0.value c.in_ok-operand-2.field-0.value c.args.i c.args.j c.in_ok-operand.ensures c.in_ok-operand-2.ensures in
    ((λ t. two.0 (c.read_once.ensures.0 t)), (λ n. c.read_once.ensures.1 (two.1 n)))
