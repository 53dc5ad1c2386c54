use Rattle.std.proofs.Common.{◌≤◌, take}
use Rattle.ivl_laws.specs.Runs.{Covers}
use Rattle.ivl_paged.specs.Pages.{flattened}
use Rattle.ivl_paged.proofs.Shortest.{IsBestSoFar}
use Rattle.ivl_paged.proofs.pages.shortest_up_to.Given as goal

-- the best of the pages so far
abbrev pub invariant-loop-i : goal.invariant-loop-i
invariant-loop-i g l = (l.i ≤ l.end) × IsBestSoFar (g.B.Output.SizeNumber.size l.count) (Covers (flattened (take l.i l.pages))) l.best
