use Rattle.std.proofs.Common.{ℤ, ◌+◌, ◌≤◌, List, length, subst}
use Rattle.ivl_places.proofs.Singles.{length_with_one}
use Rattle.intervallum.proofs.interval_set.value_operands.IntervalSetUnion.union.Goals as goal

pub returns-clause-runs_at_most : goal.returns-clause-runs_at_most
returns-clause-runs_at_most g c =
    subst (λ (L : List (ℤ × ℤ)). length c.insert.new.self ≤ length L + 1) c.in_ok-set.ensures.same
    (length_with_one c.in_ok-set.set c.insert.new.self (g.B.Width.value c.args.other.now) c.in_ok-insert.ensures.members)
