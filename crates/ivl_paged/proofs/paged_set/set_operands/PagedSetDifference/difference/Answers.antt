use Rattle.std.proofs.lemmas.Result.{IfOk-weaker}
use Rattle.ivl_walks.proofs.RunBounds.{length_of_without}
use Rattle.ivl_paged.proofs.paged_set.set_operands.PagedSetDifference.difference.Goals as goal

pub returns-clause-runs_at_most : goal.returns-clause-runs_at_most
returns-clause-runs_at_most g c = IfOk-weaker c.combined_with.result _ _ (λ L r. length_of_without c.args.self.now c.args.other.now L r) c.combined_with.ensures
