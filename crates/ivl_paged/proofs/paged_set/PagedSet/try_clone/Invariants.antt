use Rattle.std.proofs.Common.{◌≡◌, take}
use Rattle.ivl_paged.specs.Pages.{flattened}
use Rattle.ivl_paged.proofs.paged_set.PagedSet.try_clone.Given as goal

-- the runs of the pages so far are copied
abbrev pub invariant-loop-page : goal.invariant-loop-page
invariant-loop-page g l = flattened l.pages ≡ flattened (take l.page-index l.page-items)
