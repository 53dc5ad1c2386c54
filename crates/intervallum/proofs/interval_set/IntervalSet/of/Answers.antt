use Rattle.std.proofs.Common.{zero-le, arith}
use Rattle.std.proofs.lemmas.Result.{IfOk-weaker}
use Rattle.ivl_laws.specs.Sets.{IsBetween}
use Rattle.ivl_laws.proofs.Adding.{untrue}
use Rattle.ivl_laws.proofs.Intervals.{not_crossed}
use Rattle.ivl_laws.proofs.Ranges.{IsRunsOf-none}
use Rattle.ivl_places.proofs.IntervalOperands.{of_some}
use Rattle.intervallum.proofs.interval_set.IntervalSet.of.Goals as goal

pub returns-clause-members : goal.returns-clause-members
returns-clause-members g c =
    of_some c.new.result c.args.interval _ _ (not_crossed c.args.interval (untrue _ c.if-is_empty.false c.is_empty.ensures.crossed)) c.lower.ensures.value c.upper.ensures.value c.new.ensures

pub new-requires-clause-in_order : goal.new-requires-clause-in_order
new-requires-clause-in_order g c = rw (c.lower.ensures.value, c.upper.ensures.value) (not_crossed c.args.interval (untrue _ c.if-is_empty.false c.is_empty.ensures.crossed))

pub new-requires-clause-in_range : goal.new-requires-clause-in_range
new-requires-clause-in_range g c = (c.lower.ensures.in_range.0, c.upper.ensures.in_range.1)

pub returns-then-is_empty-clause-members : goal.returns-then-is_empty-clause-members
returns-then-is_empty-clause-members g c = rw c.empty.ensures (IsRunsOf-none (IsBetween c.args.interval) (c.is_empty.ensures.members.0 c.if-is_empty.true))

pub returns-then-is_empty-clause-runs_at_most : goal.returns-then-is_empty-clause-runs_at_most
returns-then-is_empty-clause-runs_at_most g c = rw c.empty.ensures (zero-le)

pub returns-clause-runs_at_most : goal.returns-clause-runs_at_most
returns-clause-runs_at_most g c = IfOk-weaker c.new.result _ _ (λ N e. rw e (omega arith)) c.new.ensures
