use Rattle.std.proofs.Common.{ℤ, ◌+◌, ◌≤◌, List, length, subst, arith}
use Rattle.ivl_places.proofs.Windows.{one_more_at_most}
use Rattle.intervallum.proofs.interval_set.interval_operands.IntervalSetUnionInterval.union.Goals as goal

pub returns-clause-runs_at_most : goal.returns-clause-runs_at_most
returns-clause-runs_at_most g c =
    rw c.fitted.ensures (subst (λ (L : List (ℤ × ℤ)). length c.insert_interval.new.self ≤ length L + 1) c.in_ok-set.ensures.same
    (one_more_at_most c.in_ok-set.set c.insert_interval.new.self c.args.other.now (length c.in_ok-set.set) c.in_ok-insert_interval.ensures.ok (omega arith)))
