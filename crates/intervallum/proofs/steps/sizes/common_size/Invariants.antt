use Rattle.std.proofs.Common.{length, ◌+◌}
use Rattle.ivl_laws.specs.Sets.{Intersection}
use Rattle.ivl_laws.specs.Runs.{Covers}
use Rattle.ivl_places.proofs.SetSizes.{IsCounted}
use Rattle.intervallum.proofs.steps.sizes.common_size.Given as goal

-- what is counted, and what the two walks have left in common, make up what they had in common
abbrev pub invariant-walk : goal.invariant-walk
invariant-walk g l = IsCounted (g.B.Output.SizeNumber.size l.size) (Intersection (Covers l.first.left) (Covers l.second.left)) (Intersection (Covers l.fn.first.left) (Covers l.fn.second.left))

abbrev pub decreases-walk : goal.decreases-walk
decreases-walk g l = length l.first.left + length l.second.left
