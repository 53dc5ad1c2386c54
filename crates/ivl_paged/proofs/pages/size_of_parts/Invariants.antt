use Rattle.std.proofs.Common.{take}
use Rattle.ivl_laws.specs.Counts.{IsCountOf}
use Rattle.ivl_laws.specs.Sets.{Intersection, IsBetween}
use Rattle.ivl_laws.specs.Runs.{Covers}
use Rattle.ivl_paged.specs.Pages.{flattened}
use Rattle.ivl_paged.proofs.pages.size_of_parts.Given as goal

-- what the pages so far have in the interval is counted
abbrev pub invariant-loop-page : goal.invariant-loop-page
invariant-loop-page g l = IsCountOf (g.B.Output.SizeNumber.size l.count) (Intersection (Covers (flattened (take l.page-index l.pages))) (IsBetween l.fn.interval))
