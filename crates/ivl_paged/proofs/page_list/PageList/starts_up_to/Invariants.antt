use Rattle.std.proofs.Common.{◌≡◌, ◌≤ℤ◌, length}
use Rattle.ivl_paged.proofs.Paging.{IsSearched}
use Rattle.ivl_paged.proofs.page_list.PageList.starts_up_to.Given as goal

-- there are as many least members as pages, and the last that was taken is up to the value
abbrev pub invariant-search : goal.invariant-search
invariant-search g l = IsSearched l.self (g.B.Width.value l.value) l.first l.left × (length l.heads ≡ length l.self) × (g.B.Width.value l.last ≤ℤ g.B.Width.value l.value)

abbrev pub decreases-search : goal.decreases-search
decreases-search g l = l.left
