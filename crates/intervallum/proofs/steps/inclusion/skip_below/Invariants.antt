use Rattle.ivl_places.proofs.Inclusions.{IsPassed}
use Rattle.std.proofs.Common.{length}
use Rattle.intervallum.proofs.steps.inclusion.skip_below.Given as goal

-- the runs that were taken end below the value
abbrev pub invariant-skip : goal.invariant-skip
invariant-skip g l = IsPassed (g.B.Width.value l.fn.value) l.fn.walk.left l.walk.left

abbrev pub decreases-skip : goal.decreases-skip
decreases-skip g l = length l.walk.left
