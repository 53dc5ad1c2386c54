use Rattle.std.proofs.Common.{◌≤◌, ◌-◌, length, take}
use Rattle.ivl_laws.specs.Runs.{Covers}
use Rattle.ivl_paged.specs.Pages.{flattened}
use Rattle.ivl_paged.proofs.Shortest.{IsBestSoFar}
use Rattle.ivl_paged.proofs.pages.shortest_run.Given as goal

-- the best of the pages before the place
abbrev pub invariant-parts : goal.invariant-parts
invariant-parts g l = (l.place ≤ length l.pages) × IsBestSoFar (g.B.Output.SizeNumber.size l.count) (Covers (flattened (take l.place l.pages))) l.best

abbrev pub decreases-parts : goal.decreases-parts
decreases-parts g l = length l.pages - l.place
