use Rattle.std.proofs.Common.{[], ◌∷◌, lit<}
use Rattle.ivl_calculator.proofs.Registers.{second_seen, third_seen}
use Rattle.ivl_calculator.proofs.Writes.{times_unfit, writes_times}
use Rattle.ivl_calculator.proofs.calc.Calc.times_at.Goals as goal

pub returns-then-not-fits_mul : goal.returns-then-not-fits_mul
returns-then-not-fits_mul g c =
    let all = c.has_registers.ensures.0 c.if-not-has_registers.false in
    times_unfit _ _ c.args.target c.args.left c.args.right _ _ _ all
    (second_seen _ c.args.self.now c.args.target c.args.left (c.args.right ∷ []) _ c.self.view_is all c.index.ensures)
    (third_seen _ c.args.self.now c.args.target c.args.left c.args.right _ c.self.view_is all c.index-2.ensures)
    c.if-not-fits_mul.true c.fits_mul.ensures

pub mul-made-requires : goal.mul-made-requires
mul-made-requires g c = c.fits_mul.ensures.0 c.if-not-fits_mul.false

pub put-requires : goal.put-requires
put-requires g c = c.has_registers.ensures.0 c.if-not-has_registers.false 0 0 (lit< tt)

pub returns : goal.returns
returns g c =
    let all = c.has_registers.ensures.0 c.if-not-has_registers.false in
    writes_times _ _ _ c.args.target _ c.mul-made.result c.args.left c.args.right c.index.result.now c.index-2.result.now all
    (second_seen _ c.args.self.now c.args.target c.args.left (c.args.right ∷ []) _ c.self.view_is all c.index.ensures)
    (third_seen _ c.args.self.now c.args.target c.args.left c.args.right _ c.self.view_is all c.index-2.ensures)
    (c.fits_mul.ensures.0 c.if-not-fits_mul.false) c.mul-made.ensures c.put.ensures.put c.put.ensures.lacked
