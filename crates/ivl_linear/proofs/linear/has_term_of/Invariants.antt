use Rattle.std.proofs.Common.{drop}
use Rattle.ivl_linear.specs.Linear.{HasTermOf}
use Rattle.ivl_linear.proofs.linear.has_term_of.Given as goal

abbrev pub invariant-loop-term : goal.invariant-loop-term
invariant-loop-term l = HasTermOf l.terms l.variable → HasTermOf (drop l.term-index l.terms) l.variable
