use Rattle.std.proofs.Common.{lit<}
use Rattle.ivl_laws.specs.Sets.{IsInRange}
use Rattle.ivl_calculator.specs.Actions.{pairs}
use Rattle.ivl_calculator.specs.View.{number_pairs}
use Rattle.ivl_calculator.proofs.Elements.{all_of_mapped}
use Rattle.ivl_calculator.proofs.Writes.{writes}
use Rattle.ivl_calculator.proofs.calc.Calc.set_at.Goals as goal

pub to_interval_set-made-requires : goal.to_interval_set-made-requires
to_interval_set-made-requires g c = all_of_mapped (IsInRange g.B.Width.whole) (λ p. (g.B.Width.value p.0, g.B.Width.value p.1)) c.args.list.now (c.are_in_range.ensures.0 c.if-not-are_in_range.false)

pub put-requires : goal.put-requires
put-requires g c = c.has_registers.ensures.0 c.if-not-has_registers.false 0 0 (lit< tt)

pub returns : goal.returns
returns g c = writes _ _ _ _ _ (pairs (number_pairs g.B.Width.value c.args.list.now)) c.to_interval_set-made.result
    (c.has_registers.ensures.0 c.if-not-has_registers.false, c.are_in_range.ensures.0 c.if-not-are_in_range.false, λ z n. absurd n) (λ d. d)
    c.to_interval_set-made.ensures c.put.ensures.put c.put.ensures.lacked
