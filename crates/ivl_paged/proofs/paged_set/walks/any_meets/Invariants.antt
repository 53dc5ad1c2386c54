use Rattle.ivl_laws.specs.Runs.{Covers}
use Rattle.ivl_paged.proofs.Walking.{IsMissedSoFar}
use Rattle.ivl_paged.proofs.paged_set.walks.any_meets.Given as goal

-- the runs so far have nothing in common with the set
abbrev pub invariant-runs : goal.invariant-runs
invariant-runs g l = IsMissedSoFar l.fn.few l.few (Covers (g.S.Walkable.runs l.fn.many))
