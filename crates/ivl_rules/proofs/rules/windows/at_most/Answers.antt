use Rattle.std.proofs.Common.{arith}
use Rattle.std.proofs.lemmas.Int.{ints}
use Rattle.std.specs.Prelude.{◌-ℤ◌}
use Rattle.ivl_rules.proofs.Windows.{to_clamped, moved}
use Rattle.ivl_rules.proofs.rules.windows.at_most.Goals as goal

pub returns : goal.returns
returns g c =
    let r = g.met.B.Width.range in let low = r.low_at_least in let high = r.high_at_most in
    let above = c.requires.in_range.0 in let below = c.requires.in_range.1 in let fits = c.requires.small.0 in let fits' = c.requires.small.1 in let e = c.number.ensures in
    let k = c.if-high-number.false in let m = c.number-2.ensures in let t = c.min_value-least.ensures in
    moved g.B.Width.whole c.new.result (g.B.Width.value c.args.a) c.args.by
    (to_clamped g.B.Width.whole c.new.result _ _ (g.B.Width.value c.args.a -ℤ c.args.by) _ c.new.ensures.value t (omega (arith, ints)) (omega (arith, ints)) c.clamped.ensures)
