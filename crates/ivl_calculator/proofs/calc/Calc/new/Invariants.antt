use Rattle.std.proofs.Common.{◌≡◌, [], replicate}
use Rattle.ivl_calculator.proofs.calc.Calc.new.Given as goal

abbrev pub invariant-loop : goal.invariant-loop
invariant-loop g l = l.sets.items ≡ replicate l.counter []
