use Rattle.std.proofs.Common.{ℤ, ◌+◌, ◌≤◌, List, length, subst}
use Rattle.ivl_places.proofs.Singles.{length_but_one}
use Rattle.intervallum.proofs.interval_set.value_operands.IntervalSetDifference.difference.Goals as goal

pub returns-clause-runs_at_most : goal.returns-clause-runs_at_most
returns-clause-runs_at_most g c =
    subst (λ (L : List (ℤ × ℤ)). length c.remove.new.self ≤ length L + 1) c.in_ok-set.ensures.same
    (length_but_one c.in_ok-set.set c.remove.new.self (g.B.Width.value c.args.other.now) c.in_ok-remove.ensures.members)
