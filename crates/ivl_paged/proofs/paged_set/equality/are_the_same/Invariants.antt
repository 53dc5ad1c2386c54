use Rattle.ivl_paged.proofs.Iterating.{IsSameSoFar}
use Rattle.ivl_paged.proofs.paged_set.equality.are_the_same.Given as goal

abbrev pub invariant-runs : goal.invariant-runs
invariant-runs g l = IsSameSoFar l.fn.a l.fn.b l.a l.b
