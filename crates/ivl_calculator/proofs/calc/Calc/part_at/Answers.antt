use Rattle.std.proofs.Common.{◌≡◌, [], sym, lit<, slice_index_or}
use Rattle.ivl_laws.proofs.Adding.{untrue}
use Rattle.ivl_within.proofs.Lists.{entry_seen}
use Rattle.ivl_calculator.proofs.Writes.{part_unnamed, writes_part}
use Rattle.ivl_calculator.proofs.calc.Calc.part_at.Goals as goal

pub returns-then-not-has_registers : goal.returns-then-not-has_registers
returns-then-not-has_registers g c = part_unnamed _ _ _ _ c.args.part _ (untrue _ c.if-not-has_registers.true c.has_registers.ensures)

pub put-requires : goal.put-requires
put-requires g c = c.has_registers.ensures.0 c.if-not-has_registers.false 0 0 (lit< tt)

pub returns : goal.returns
returns g c =
    let all = c.has_registers.ensures.0 c.if-not-has_registers.false in
    let a : c.index.result.now ≡ slice_index_or c.args.self.now c.args.source [] = entry_seen _ _ _ _ c.self.view_is (all 1 0 (lit< tt)) c.index.ensures in
    writes_part _ _ _ _ _ c.part_of-made.result c.put.ensures.put c.put.ensures.lacked c.args.part c.args.source _ all (rw (sym a) c.part_of-made.ensures)
