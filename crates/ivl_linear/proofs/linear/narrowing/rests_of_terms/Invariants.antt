use Rattle.std.proofs.Common.{drop}
use Rattle.ivl_linear.specs.Linear.{HasTermOf}
use Rattle.ivl_linear.specs.Rests.{AreRestsOf}
use Rattle.ivl_linear.proofs.linear.narrowing.rests_of_terms.Given as goal

abbrev pub invariant-loop-k : goal.invariant-loop-k
invariant-loop-k g l = AreRestsOf l.terms l.relation l.domains (λ i. HasTermOf l.terms i × (¬ (HasTermOf (drop l.k l.terms) i))) l.rests.items
