use Rattle.std.proofs.Common.{arith}
use Rattle.std.proofs.lemmas.Int.{ints}
use Rattle.ivl_linear.proofs.Windows.{from_nearest}
use Rattle.ivl_linear.proofs.linear.windows.from_least.Goals as goal

pub returns : goal.returns
returns g c =
    let k = c.if-number-low.false in let m = c.number.ensures in let t = c.max_value-greatest.ensures in
    from_nearest g.B.Width.whole c.new.result _ _ c.args.low _ c.new.ensures.value t (omega (arith, ints)) (omega (arith, ints)) c.nearest.ensures
