use Rattle.std.proofs.Common.{◌≡◌, [], sym, lit<, slice_index_or}
use Rattle.ivl_calculator.specs.Actions.{complement}
use Rattle.ivl_within.proofs.Lists.{entry_seen}
use Rattle.ivl_calculator.proofs.Writes.{writes}
use Rattle.ivl_calculator.proofs.calc.Calc.complement_at.Goals as goal

pub put-requires : goal.put-requires
put-requires g c = c.has_registers.ensures.0 c.if-not-has_registers.false 0 0 (lit< tt)

pub returns : goal.returns
returns g c =
    let all = c.has_registers.ensures.0 c.if-not-has_registers.false in
    let a : c.index.result.now ≡ slice_index_or c.args.self.now c.args.source [] = entry_seen _ _ _ _ c.self.view_is (all 1 0 (lit< tt)) c.index.ensures in
    writes _ _ _ _ _ (complement c.args.source) c.complement-made.result (all, tt, λ z n. absurd n) (λ d. d) (rw (sym a) c.complement-made.ensures.members) c.put.ensures.put c.put.ensures.lacked
