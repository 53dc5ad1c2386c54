use Rattle.std.proofs.Common.{◌≡◌, ◌+◌, ◌-◌, ◌≤◌, length}
use Rattle.ivl_paged.proofs.PageSearch.{IsUpTo}
use Rattle.ivl_paged.proofs.page_search.row_up_to.Given as goal

-- the runs at each step up to place `next` were looked at, but for the first
abbrev pub invariant-rows : goal.invariant-rows
invariant-rows g l = IsUpTo (g.B.Width.value l.value) l.runs l.first 16 (l.next + 16) × (l.first ≤ l.last) × (l.next ≤ l.last) × (l.last + 16 ≡ length l.runs)

abbrev pub decreases-rows : goal.decreases-rows
decreases-rows g l = l.last - l.next
