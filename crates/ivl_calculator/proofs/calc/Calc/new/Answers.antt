use Rattle.std.proofs.Common.{[], ◌∙◌, ap, arith, replicate}
use Rattle.ivl_calculator.proofs.Registers.{replicate_pushed}
use Rattle.ivl_calculator.proofs.calc.Calc.new.Goals as goal

pub loop-init : goal.loop-init
loop-init g c = c.in_ok-sets.ensures.items

pub loop-preserved : goal.loop-preserved
loop-preserved g c = replicate_pushed _ _ _ _ _ c.loop.invariant c.empty.ensures c.in_ok-push.ensures.items

pub returns : goal.returns
returns g c = c.loop.invariant ∙ ap (λ n. replicate n []) (omega arith)
