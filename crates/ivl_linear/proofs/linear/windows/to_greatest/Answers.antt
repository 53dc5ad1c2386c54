use Rattle.std.proofs.Common.{arith}
use Rattle.std.proofs.lemmas.Int.{ints}
use Rattle.ivl_linear.proofs.Windows.{to_nearest}
use Rattle.ivl_linear.proofs.linear.windows.to_greatest.Goals as goal

pub returns : goal.returns
returns g c =
    let k = c.if-high-number.false in let m = c.number.ensures in let t = c.min_value-least.ensures in
    to_nearest g.B.Width.whole c.new.result _ _ c.args.high _ c.new.ensures.value t (omega (arith, ints)) (omega (arith, ints)) c.nearest.ensures
