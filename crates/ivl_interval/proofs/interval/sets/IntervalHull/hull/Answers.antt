use Rattle.ivl_laws.proofs.Orders.{max_number, min_number}
use Rattle.ivl_laws.proofs.Spans.{hull_of_crossed_left, hull_of_crossed_right}
use Rattle.ivl_interval.proofs.Ends.{max_at_most, min_at_least}
use Rattle.ivl_interval.proofs.Pairs.{hull_of_pairs, not_that}
use Rattle.ivl_interval.proofs.interval.sets.IntervalHull.hull.Goals as goal

pub returns-then-is_empty : goal.returns-then-is_empty
returns-then-is_empty g c = rw c.other.view_is (hull_of_crossed_left _ _ (c.is_empty.ensures.crossed.0 c.if-is_empty.true))

pub returns-then-is_empty-2 : goal.returns-then-is_empty-2
returns-then-is_empty-2 g c = rw c.self.view_is (hull_of_crossed_right _ _ (c.is_empty-2.ensures.crossed.0 c.if-is_empty-2.true))

pub new-requires : goal.new-requires
new-requires g c = (
  min_at_least _ _ _ _ c.self.invariant.0.0 c.other.invariant.0.0 (min_number g.met.B.Width.ordered _ _ _ c.min.ensures),
  max_at_most _ _ _ _ c.self.invariant.0.1 c.other.invariant.0.1 (max_number g.met.B.Width.ordered _ _ _ c.max.ensures),
)

pub returns : goal.returns
returns g c =
    rw c.new.ensures.value (hull_of_pairs _ _ _ _ _ _ _ _ c.self.view_is c.other.view_is
    (not_that _ c.is_empty.ensures.crossed c.if-is_empty.false)
    (not_that _ c.is_empty-2.ensures.crossed c.if-is_empty-2.false)
    (min_number g.met.B.Width.ordered _ _ _ c.min.ensures)
    (max_number g.met.B.Width.ordered _ _ _ c.max.ensures))
