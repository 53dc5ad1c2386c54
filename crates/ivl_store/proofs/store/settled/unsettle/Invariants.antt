use Rattle.ivl_store.proofs.Settled.{ClearedSoFar}
use Rattle.ivl_store.proofs.store.settled.unsettle.Given as goal

abbrev pub invariant-loop-k : goal.invariant-loop-k
invariant-loop-k l = ClearedSoFar l.constraints l.variable l.fn.settled.items l.settled.items l.k
