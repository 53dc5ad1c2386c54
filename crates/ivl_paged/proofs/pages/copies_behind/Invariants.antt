use Rattle.std.proofs.Common.{◌≡◌, ◌++◌, take}
use Rattle.ivl_paged.specs.Pages.{flattened}
use Rattle.ivl_paged.proofs.pages.copies_behind.Given as goal

-- the pages so far are copied
abbrev pub invariant-loop-page : goal.invariant-loop-page
invariant-loop-page g l = flattened l.copies ≡ flattened l.fn.copies ++ flattened (take l.page-index l.pages)
