use Rattle.std.proofs.lemmas.Result.{IfOk-weaker}
use Rattle.ivl_walks.proofs.RunBounds.{length_of_without}
use Rattle.intervallum.proofs.interval_set.set_operands.IntervalSetDifference.difference.Goals as goal

pub returns-then-is_far_shorter-clause-runs_at_most : goal.returns-then-is_far_shorter-clause-runs_at_most
returns-then-is_far_shorter-clause-runs_at_most g c = IfOk-weaker c.without_few.result _ _ (λ L r. length_of_without c.args.self.now c.args.other.now L r) c.without_few.ensures.members

pub returns-then-is_far_shorter-2-clause-runs_at_most : goal.returns-then-is_far_shorter-2-clause-runs_at_most
returns-then-is_far_shorter-2-clause-runs_at_most g c = IfOk-weaker c.few_without.result _ _ (λ L r. length_of_without c.args.self.now c.args.other.now L r) c.few_without.ensures.members
