use Rattle.ivl_paged.specs.Walks.{put_back}
use Rattle.ivl_paged.proofs.Walking.{IsHeldSoFar}
use Rattle.ivl_paged.proofs.paged_set.walks.are_within.Given as goal

-- the runs so far lie within the other list
abbrev pub invariant-runs : goal.invariant-runs
invariant-runs g l = IsHeldSoFar l.fn.a l.fn.b l.a (put_back l.other l.b)
