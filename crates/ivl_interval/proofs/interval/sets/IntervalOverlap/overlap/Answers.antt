use Rattle.ivl_interval.proofs.Pairs.{some_of_same}
use Rattle.ivl_interval.proofs.interval.sets.IntervalOverlap.overlap.Goals as goal

pub returns : goal.returns
returns g c = some_of_same _ c.intersection.result _ c.intersection.ensures c.is_empty.ensures.crossed
