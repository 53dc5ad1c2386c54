use Rattle.std.proofs.Common.{◌≤◌, drop, length}
use Rattle.ivl_laws.specs.Sets.{Without}
use Rattle.ivl_laws.specs.Runs.{Covers, IsRunsOf}
use Rattle.ivl_paged.proofs.paged_set.PagedSet.remove_each.Given as goal

-- the members of the last intervals are removed
abbrev pub invariant-intervals : goal.invariant-intervals
invariant-intervals g l = (l.left ≤ length l.intervals) × IsRunsOf l.self (Without (Covers l.initial.self) (Covers (drop l.left l.intervals)))

abbrev pub decreases-intervals : goal.decreases-intervals
decreases-intervals g l = l.left
