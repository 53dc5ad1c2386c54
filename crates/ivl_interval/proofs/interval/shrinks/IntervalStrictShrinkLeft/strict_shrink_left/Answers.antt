use Rattle.ivl_laws.proofs.Orders.{lt_number, ge_number, not_le}
use Rattle.ivl_interval.proofs.Ends.{above_all, above_by_ends, next_at_least, next_in_range}
use Rattle.ivl_interval.proofs.Pairs.{above_none, not_below}
use Rattle.ivl_interval.proofs.interval.shrinks.IntervalStrictShrinkLeft.strict_shrink_left.Goals as goal

pub returns-then-lt : goal.returns-then-lt
returns-then-lt g c = above_all _ _ _ _ c.self.view_is ((lt_number g.met.B.Width.ordered _ _ _ c.lt.ensures).0 c.if-lt.true)

pub returns-then-ge : goal.returns-then-ge
returns-then-ge g c =
    above_none _ _ (g.B.Width.value c.args.lower) c.empty.ensures.crossed (rw (← c.self.view_is) ((ge_number g.met.B.Width.ordered _ _ _ c.ge.ensures).0 c.if-ge.true))

pub successor-requires : goal.successor-requires
successor-requires g c =
    next_in_range _ _ _ _ c.self.invariant.0
    (not_below _ _ _ (lt_number g.met.B.Width.ordered _ _ _ c.lt.ensures) c.if-lt.false)
    (not_le _ _ _ (ge_number g.met.B.Width.ordered _ _ _ c.ge.ensures) c.if-ge.false)

pub new-requires : goal.new-requires
new-requires g c = (
  next_at_least _ _ _ _ c.self.invariant.0.0 (not_below _ _ _ (lt_number g.met.B.Width.ordered _ _ _ c.lt.ensures) c.if-lt.false) c.successor.ensures,
  c.self.invariant.0.1,
)

pub returns : goal.returns
returns g c =
    above_by_ends _ _ _ _ _ _ c.self.view_is c.new.ensures.value
    (not_below _ _ _ (lt_number g.met.B.Width.ordered _ _ _ c.lt.ensures) c.if-lt.false) c.successor.ensures
