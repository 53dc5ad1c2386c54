use Rattle.ivl_interval_pins.proofs.Members.{same_by_set}
use Rattle.ivl_interval_pins.proofs.intervals.operands.sums_agree.Goals as goal

pub equal-requires : goal.equal-requires
equal-requires g c = same_by_set _ _ _ c.sum_by_bound-owned.ensures c.sum_by_bound.ensures

pub equal-requires-then-equal : goal.equal-requires-then-equal
equal-requires-then-equal g c = same_by_set _ _ _ c.sum_by_bound-owned.ensures c.sum_by_bound-then-equal.ensures

pub equal-requires-then-equal-2 : goal.equal-requires-then-equal-2
equal-requires-then-equal-2 g c = same_by_set _ _ _ c.sum_by_bound-owned.ensures c.sum_by_bound-then-equal-2.ensures
