use Rattle.std.proofs.Common.{◌≡◌, ◌≤◌, ◌-◌, ◌++◌, length, take}
use Rattle.ivl_paged.specs.Pages.{flattened}
use Rattle.ivl_paged.proofs.pages.push_runs.Given as goal

-- the runs put so far
abbrev pub invariant-parts : goal.invariant-parts
invariant-parts g l = (l.start ≤ length l.runs) × (flattened l.pages ≡ flattened l.initial.pages ++ take l.start l.runs)

abbrev pub decreases-parts : goal.decreases-parts
decreases-parts g l = length l.runs - l.start
