use Rattle.ivl_laws.proofs.Spans.{hull_is_unique}
use Rattle.ivl_interval_pins.proofs.intervals.operands.products_with_value_agree.Goals as goal

pub equal-requires : goal.equal-requires
equal-requires g c = hull_is_unique _ _ _ c.product_by_bound-owned.ensures c.product_by_bound.ensures

pub equal-requires-then-equal : goal.equal-requires-then-equal
equal-requires-then-equal g c = hull_is_unique _ _ _ c.product_by_bound-owned.ensures c.product_by_bound-then-equal.ensures

pub equal-requires-then-equal-2 : goal.equal-requires-then-equal-2
equal-requires-then-equal-2 g c = hull_is_unique _ _ _ c.product_by_bound-owned.ensures c.product_by_bound-then-equal-2.ensures
