use Rattle.std.proofs.Common.{[], ◌∷◌, lit<}
use Rattle.ivl_laws.proofs.Adding.{untrue}
use Rattle.ivl_calculator.proofs.Registers.{second_seen, third_seen}
use Rattle.ivl_calculator.proofs.Writes.{merge_unnamed, writes_merged}
use Rattle.ivl_calculator.proofs.calc.Calc.merge_at.Goals as goal

pub returns-then-not-has_registers : goal.returns-then-not-has_registers
returns-then-not-has_registers g c = merge_unnamed g.B.Width.whole c.args.self.now c.args.target c.args.left c.args.merge c.args.right (untrue _ c.if-not-has_registers.true c.has_registers.ensures)

pub put-requires : goal.put-requires
put-requires g c = c.has_registers.ensures.0 c.if-not-has_registers.false 0 0 (lit< tt)

pub returns : goal.returns
returns g c =
    let all = c.has_registers.ensures.0 c.if-not-has_registers.false in
    writes_merged g.B.Width.whole c.args.self.now _ c.args.target _ c.merged-made.result c.put.ensures.put c.put.ensures.lacked c.args.merge c.args.left c.args.right c.index.result.now c.index-2.result.now all
    (second_seen _ c.args.self.now c.args.target c.args.left (c.args.right ∷ []) _ c.self.view_is all c.index.ensures)
    (third_seen _ c.args.self.now c.args.target c.args.left c.args.right _ c.self.view_is all c.index-2.ensures)
    c.merged-made.ensures
