use Rattle.std.proofs.Common.{◌+◌, ◌<◌, length, arith}
use Rattle.ivl_upper_pins.proofs.Small.{sum_is_below}
use Rattle.ivl_upper_pins.proofs.expr.bounds.item_at.Goals as goal

pub bounds-items-i : goal.bounds-items-i
bounds-items-i c = sum_is_below c.args.ranges.now c.first-item.result c.second-item.result c.args.i c.args.offset _
    c.in-len2.len_at_least c.first-item.is c.second-item.is (c.contains.ensures.0 c.if-not-contains.false) (c.contains-else-not-contains.ensures.0 c.if-not-contains-2.false)
    (c.in_ok-sum_is_an_index.ensures.index c.if-not-branch.false)

pub overflow_add-result : goal.overflow_add-result
overflow_add-result c =
    let below : c.args.i + c.args.offset < length c.args.items.now = sum_is_below c.args.ranges.now c.first-item.result c.second-item.result c.args.i c.args.offset _
    c.in-len2.len_at_least c.first-item.is c.second-item.is (c.contains.ensures.0 c.if-not-contains.false) (c.contains-else-not-contains.ensures.0 c.if-not-contains-2.false)
    (c.in_ok-sum_is_an_index.ensures.index c.if-not-branch.false) in
    omega (arith, c.sum_is_an_index.ensures.fits, below)
