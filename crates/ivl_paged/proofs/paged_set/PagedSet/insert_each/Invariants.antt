use Rattle.std.proofs.Common.{take}
use Rattle.ivl_laws.specs.Sets.{Union}
use Rattle.ivl_laws.specs.Runs.{Covers, IsRunsOf}
use Rattle.ivl_paged.proofs.paged_set.PagedSet.insert_each.Given as goal

-- the members of the intervals so far are added
abbrev pub invariant-loop-interval : goal.invariant-loop-interval
invariant-loop-interval g l = IsRunsOf l.self (Union (Covers l.initial.self) (Covers (take l.interval-index l.intervals)))
