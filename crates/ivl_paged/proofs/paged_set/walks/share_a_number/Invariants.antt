use Rattle.ivl_paged.specs.Walks.{put_back}
use Rattle.ivl_paged.proofs.Walking.{IsFacing}
use Rattle.ivl_paged.proofs.paged_set.walks.share_a_number.Given as goal

-- what both have in common is left
abbrev pub invariant-runs : goal.invariant-runs
invariant-runs g l = IsFacing l.fn.a l.fn.b l.a (put_back l.other l.b)
