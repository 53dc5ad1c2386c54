use Rattle.ivl_laws.proofs.Orders.{le_number}
use Rattle.ivl_interval.proofs.Ends.{subset_by_lowers, subset_by_uppers}
use Rattle.ivl_interval.proofs.Pairs.{not_that}
use Rattle.ivl_interval.proofs.interval.sets.IntervalSubset.is_subset.Goals as goal

pub returns-then-le : goal.returns-then-le
returns-then-le g c =
    subset_by_uppers _ _ _ _ _ _ _ _ c.self.view_is c.other.view_is (not_that _ c.is_empty.ensures.crossed c.if-is_empty.false) c.if-le.true
    (le_number g.met.B.Width.ordered _ _ _ c.le.ensures) (le_number g.met.B.Width.ordered _ _ _ c.le-then-le.ensures)

pub returns-else-le : goal.returns-else-le
returns-else-le g c =
    subset_by_lowers _ _ _ _ _ _ _ c.self.view_is c.other.view_is (not_that _ c.is_empty.ensures.crossed c.if-is_empty.false) c.if-le.false
    (le_number g.met.B.Width.ordered _ _ _ c.le.ensures)
