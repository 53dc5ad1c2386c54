use Rattle.ivl_interval.proofs.Pairs.{not_that}
use Rattle.ivl_interval.proofs.interval.sets.IntervalEntailment.entail.Goals as goal

pub returns-then-is_subset : goal.returns-then-is_subset
returns-then-is_subset g c = c.is_subset.ensures.0 c.if-is_subset.true

pub returns-then-is_subset-2 : goal.returns-then-is_subset-2
returns-then-is_subset-2 g c = (not_that _ c.is_subset.ensures c.if-is_subset.false, c.is_subset-else-is_subset.ensures.0 c.if-is_subset-2.true)

pub returns-else-is_subset-2 : goal.returns-else-is_subset-2
returns-else-is_subset-2 g c =
    (not_that _ c.is_subset.ensures c.if-is_subset.false, not_that _ c.is_subset-else-is_subset.ensures c.if-is_subset-2.false)
