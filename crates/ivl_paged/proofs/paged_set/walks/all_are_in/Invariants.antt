use Rattle.ivl_laws.specs.Runs.{Covers}
use Rattle.ivl_paged.proofs.Walking.{IsInSoFar}
use Rattle.ivl_paged.proofs.paged_set.walks.all_are_in.Given as goal

-- the runs so far lie in the set
abbrev pub invariant-runs : goal.invariant-runs
invariant-runs g l = IsInSoFar l.fn.few l.few (Covers (g.S.Walkable.runs l.fn.many))
