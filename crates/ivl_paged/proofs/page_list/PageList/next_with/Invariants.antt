use Rattle.std.proofs.Common.{ℕ, ◌<◌, ◌≤◌, ◌-◌, length}
use Rattle.ivl_paged.specs.Longests.{HasLong}
use Rattle.ivl_paged.proofs.page_list.PageList.next_with.Given as goal

-- no page before the place has such a run
abbrev pub invariant-groups : goal.invariant-groups
invariant-groups g l = (l.from ≤ l.place) × ((k : ℕ) → l.from ≤ k → k < l.place → ¬ (HasLong (g.B.Output.SizeNumber.size l.count) l.pages k))

abbrev pub decreases-groups : goal.decreases-groups
decreases-groups g l = length l.pages - l.place
