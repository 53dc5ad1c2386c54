use Rattle.std.proofs.Common.{◌≡◌, take}
use Rattle.ivl_paged.specs.Pages.{flattened}
use Rattle.ivl_paged.proofs.paged_set.PagedSet.to_set.Given as goal

-- the runs of the pages so far
abbrev pub invariant-loop-page : goal.invariant-loop-page
invariant-loop-page g l = l.runs.items ≡ flattened (take l.page-index l.page-items)
