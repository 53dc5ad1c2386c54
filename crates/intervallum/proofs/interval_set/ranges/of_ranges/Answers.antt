use Rattle.std.proofs.Common.{map, take_all, ap, ◌∙◌}
use Rattle.intervallum.proofs.interval_set.ranges.of_ranges.Goals as goal

pub returns : goal.returns
returns g c = rw (← (c.loop-range.invariant.written ∙ ap (map _) (take_all c.loop-range.range-index c.args.ranges.now c.loop-range-test.false))) c.coalesce.ensures
