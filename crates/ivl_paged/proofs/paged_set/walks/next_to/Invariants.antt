use Rattle.ivl_paged.specs.Walks.{IsReadPast}
use Rattle.ivl_paged.proofs.paged_set.walks.next_to.Given as goal

-- the runs so far end below the value
abbrev pub invariant-runs : goal.invariant-runs
invariant-runs g l = IsReadPast (g.B.Width.value l.fn.value) l.fn.left l.left
