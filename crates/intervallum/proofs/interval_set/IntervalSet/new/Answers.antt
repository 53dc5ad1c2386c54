use Rattle.ivl_places.proofs.IntervalOperands.{holds_one}
use Rattle.intervallum.proofs.interval_set.IntervalSet.new.Goals as goal

pub invariant_of-result : goal.invariant_of-result
invariant_of-result g c =
    holds_one g.B.Width.whole (g.B.Width.value c.args.lb, g.B.Width.value c.args.ub) c.new-run.result c.in_ok-intervals.intervals.items c.push_reserved.new.self.items _
    c.new-run.ensures.value c.in_ok-intervals.ensures.items c.push_reserved.ensures.items c.requires.in_order c.requires.in_range c.size.ensures.members
