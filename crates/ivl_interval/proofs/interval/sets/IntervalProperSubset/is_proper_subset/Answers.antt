use Rattle.ivl_interval.proofs.Pairs.{proper_by_test}
use Rattle.ivl_interval.proofs.interval.sets.IntervalProperSubset.is_proper_subset.Goals as goal

pub returns-then-is_subset : goal.returns-then-is_subset
returns-then-is_subset g c = proper_by_test _ _ _ (c.is_subset.ensures.0 c.if-is_subset.true) c.ne.ensures
