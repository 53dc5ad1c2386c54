use Rattle.std.proofs.Common.{length}
use Rattle.intervallum.proofs.interval_set.IntervalSet.+intersection_of.Given as goal

abbrev pub decreases-intersection_of : goal.decreases-intersection_of
decreases-intersection_of g l = length l.sets.now
