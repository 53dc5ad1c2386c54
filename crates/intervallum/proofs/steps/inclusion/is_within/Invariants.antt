use Rattle.std.proofs.Common.{◌↔◌, length}
use Rattle.ivl_laws.specs.Sets.{IsSubset}
use Rattle.ivl_laws.specs.Runs.{Covers}
use Rattle.intervallum.proofs.steps.inclusion.is_within.Given as goal

-- what is left lies within what is left of the other exactly where all does
abbrev pub invariant-walk : goal.invariant-walk
invariant-walk g l = IsSubset (Covers l.first.left) (Covers l.second.left) ↔ IsSubset (Covers l.fn.first.left) (Covers l.fn.second.left)

abbrev pub decreases-walk : goal.decreases-walk
decreases-walk g l = length l.first.left
