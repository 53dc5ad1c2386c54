use Rattle.std.proofs.Common.{length}
use Rattle.intervallum.proofs.interval_set.IntervalSet.+union_of.Given as goal

abbrev pub decreases-union_of : goal.decreases-union_of
decreases-union_of g l = length l.sets.now
