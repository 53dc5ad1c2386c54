use Rattle.std.proofs.Common.{length, ◌+◌}
use Rattle.ivl_laws.specs.Sets.{Intersection, SameMembers}
use Rattle.ivl_laws.specs.Runs.{Covers}
use Rattle.intervallum.proofs.steps.intersection.have_common.Given as goal

-- what the two walks have left in common is all that they had
abbrev pub invariant-walk : goal.invariant-walk
invariant-walk g l = SameMembers (Intersection (Covers l.first.left) (Covers l.second.left)) (Intersection (Covers l.fn.first.left) (Covers l.fn.second.left))

abbrev pub decreases-walk : goal.decreases-walk
decreases-walk g l = length l.first.left + length l.second.left
