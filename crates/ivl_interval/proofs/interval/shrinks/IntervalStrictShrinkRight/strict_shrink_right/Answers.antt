use Rattle.ivl_laws.proofs.Orders.{gt_number, le_number, not_le}
use Rattle.ivl_interval.proofs.Ends.{below_all, below_by_ends, previous_at_most, previous_in_range}
use Rattle.ivl_interval.proofs.Pairs.{below_none, not_below}
use Rattle.ivl_interval.proofs.interval.shrinks.IntervalStrictShrinkRight.strict_shrink_right.Goals as goal

pub returns-then-gt : goal.returns-then-gt
returns-then-gt g c = below_all _ _ _ _ c.self.view_is ((gt_number g.met.B.Width.ordered _ _ _ c.gt.ensures).0 c.if-gt.true)

pub returns-then-le : goal.returns-then-le
returns-then-le g c =
    below_none _ _ (g.B.Width.value c.args.upper) c.empty.ensures.crossed (rw (← c.self.view_is) ((le_number g.met.B.Width.ordered _ _ _ c.le.ensures).0 c.if-le.true))

pub predecessor-requires : goal.predecessor-requires
predecessor-requires g c =
    previous_in_range _ _ _ _ c.self.invariant.0
    (not_le _ _ _ (le_number g.met.B.Width.ordered _ _ _ c.le.ensures) c.if-le.false)
    (not_below _ _ _ (gt_number g.met.B.Width.ordered _ _ _ c.gt.ensures) c.if-gt.false)

pub new-requires : goal.new-requires
new-requires g c = (
  c.self.invariant.0.0,
  previous_at_most _ _ _ _ c.self.invariant.0.1 (not_below _ _ _ (gt_number g.met.B.Width.ordered _ _ _ c.gt.ensures) c.if-gt.false) c.predecessor.ensures,
)

pub returns : goal.returns
returns g c =
    below_by_ends _ _ _ _ _ _ c.self.view_is c.new.ensures.value
    (not_below _ _ _ (gt_number g.met.B.Width.ordered _ _ _ c.gt.ensures) c.if-gt.false) c.predecessor.ensures
