use Rattle.std.proofs.Common.{take}
use Rattle.ivl_laws.specs.Sets.{Intersection, IsBetween}
use Rattle.ivl_laws.specs.Runs.{Covers, IsRunsOf}
use Rattle.ivl_paged.specs.Pages.{flattened}
use Rattle.ivl_paged.proofs.parts.gather_pages.Given as goal

-- what the pages so far have in the window
abbrev pub invariant-loop-page : goal.invariant-loop-page
invariant-loop-page g l = IsRunsOf l.list.items (Intersection (Covers (flattened (take l.page-index l.page-items))) (IsBetween l.window))
