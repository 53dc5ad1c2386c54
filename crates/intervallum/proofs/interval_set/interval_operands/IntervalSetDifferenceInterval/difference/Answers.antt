use Rattle.std.proofs.Common.{ℤ, ◌+◌, ◌≤◌, List, length, subst}
use Rattle.ivl_places.proofs.IntervalOperands.{length_but_interval}
use Rattle.intervallum.proofs.interval_set.interval_operands.IntervalSetDifferenceInterval.difference.Goals as goal

pub returns-clause-runs_at_most : goal.returns-clause-runs_at_most
returns-clause-runs_at_most g c =
    rw c.fitted.ensures (subst (λ (L : List (ℤ × ℤ)). length c.remove_interval.new.self ≤ length L + 1) c.in_ok-set.ensures.same
    (length_but_interval c.in_ok-set.set c.remove_interval.new.self c.args.other.now c.in_ok-remove_interval.ensures.ok))
