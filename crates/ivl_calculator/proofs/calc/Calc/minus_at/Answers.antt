use Rattle.std.proofs.Common.{[], ◌∷◌, lit<}
use Rattle.ivl_calculator.proofs.Registers.{second_seen, third_seen}
use Rattle.ivl_calculator.proofs.Writes.{writes_minus}
use Rattle.ivl_calculator.proofs.calc.Calc.minus_at.Goals as goal

pub put_cut-requires : goal.put_cut-requires
put_cut-requires g c = c.has_registers.ensures.0 c.if-not-has_registers.false 0 0 (lit< tt)

pub returns : goal.returns
returns g c =
    let all = c.has_registers.ensures.0 c.if-not-has_registers.false in
    writes_minus _ _ _ c.args.target _ c.sub_within-made.result c.args.left c.args.right c.index.result.now c.index-2.result.now all
    (second_seen _ c.args.self.now c.args.target c.args.left (c.args.right ∷ []) _ c.self.view_is all c.index.ensures)
    (third_seen _ c.args.self.now c.args.target c.args.left c.args.right _ c.self.view_is all c.index-2.ensures)
    c.put_cut.ensures.put c.put_cut.ensures.lacked c.sub_within-made.ensures.members c.sub_within-made.ensures.cut
