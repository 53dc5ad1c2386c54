use Rattle.std.proofs.Common.{◌↔◌, drop}
use Rattle.ivl_linear.specs.Linear.{AreOfDifferent}
use Rattle.ivl_linear.proofs.linear.are_of_different.Given as goal

abbrev pub invariant-loop-i : goal.invariant-loop-i
invariant-loop-i l = AreOfDifferent l.terms ↔ AreOfDifferent (drop l.i l.terms)
