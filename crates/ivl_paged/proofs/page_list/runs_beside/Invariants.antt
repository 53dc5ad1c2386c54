use Rattle.std.proofs.Common.{◌≡◌, ◌+◌, length, take}
use Rattle.ivl_paged.specs.Pages.{flattened}
use Rattle.ivl_paged.proofs.page_list.runs_beside.Given as goal

-- the runs of the pages so far are taken off
abbrev pub invariant-loop-page : goal.invariant-loop-page
invariant-loop-page g l = l.others + length (flattened (take l.page-index l.pages)) ≡ l.fn.count
