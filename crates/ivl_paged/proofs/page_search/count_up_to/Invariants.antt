use Rattle.std.proofs.Common.{◌≤◌}
use Rattle.ivl_paged.proofs.PageSearch.{IsUpTo}
use Rattle.ivl_paged.proofs.page_search.count_up_to.Given as goal

-- the runs before place i were looked at
abbrev pub invariant-loop-i : goal.invariant-loop-i
invariant-loop-i g l = IsUpTo (g.B.Width.value l.value) l.runs l.count 0 l.i × (l.count ≤ l.i)
