use Rattle.std.proofs.Common.{◌≡◌, [], sym, lit<, slice_index_or}
use Rattle.ivl_laws.proofs.Adding.{untrue}
use Rattle.ivl_within.proofs.Lists.{entry_seen}
use Rattle.ivl_calculator.proofs.Writes.{value_unfit, value_unnamed, writes_value}
use Rattle.ivl_calculator.proofs.calc.Calc.value_at.Goals as goal

pub returns-then-not-has_registers : goal.returns-then-not-has_registers
returns-then-not-has_registers g c = value_unnamed _ _ _ _ c.args.op _ (untrue _ c.if-not-has_registers.true c.has_registers.ensures)

pub returns-then-not-fits : goal.returns-then-not-fits
returns-then-not-fits g c =
    let all = c.has_registers.ensures.0 c.if-not-has_registers.false in
    let a : c.index-set.result.now ≡ slice_index_or c.args.self.now c.args.source [] = entry_seen _ _ _ _ c.self.view_is (all 1 0 (lit< tt)) c.index-set.ensures in
    value_unfit _ _ _ _ c.args.op _ all (rw (sym a) (untrue _ c.if-not-fits.true c.fits.ensures))

pub combined-made-requires : goal.combined-made-requires
combined-made-requires g c = c.fits.ensures.0 c.if-not-fits.false

pub put-requires : goal.put-requires
put-requires g c = c.has_registers.ensures.0 c.if-not-has_registers.false 0 0 (lit< tt)

pub returns : goal.returns
returns g c =
    let all = c.has_registers.ensures.0 c.if-not-has_registers.false in
    let a : c.index-set.result.now ≡ slice_index_or c.args.self.now c.args.source [] = entry_seen _ _ _ _ c.self.view_is (all 1 0 (lit< tt)) c.index-set.ensures in
    writes_value _ _ _ _ _ c.combined-made.result c.put.ensures.put c.put.ensures.lacked c.args.op c.args.source _ all (rw (sym a) (c.fits.ensures.0 c.if-not-fits.false)) (rw (sym a) c.combined-made.ensures)
