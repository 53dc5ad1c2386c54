use Rattle.ivl_laws.specs.Sets.{IsBetween}
use Rattle.ivl_laws.proofs.Intervals.{not_crossed}
use Rattle.ivl_interval.proofs.Ends.{crossed_stays}
use Rattle.ivl_interval.proofs.Pairs.{not_that}
use Rattle.ivl_interval.proofs.interval.sets.IntervalDifference.difference.Goals as goal

pub cut_away-requires : goal.cut_away-requires
cut_away-requires g c = not_crossed _ (not_that _ c.is_empty.ensures.crossed c.if-is_empty.false)

pub returns-then-is_empty : goal.returns-then-is_empty
returns-then-is_empty g c = crossed_stays _ (IsBetween c.args.other.now) (c.is_empty.ensures.crossed.0 c.if-is_empty.true)
