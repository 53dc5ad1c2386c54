use Rattle.std.proofs.lemmas.Result.{IfOk-weaker}
use Rattle.ivl_walks.proofs.RunBounds.{length_of_one_alone}
use Rattle.ivl_paged.proofs.paged_set.list_operands.PagedSetSymmetricDifferenceIntervalSet.symmetric_difference.Goals as goal

pub returns-clause-runs_at_most : goal.returns-clause-runs_at_most
returns-clause-runs_at_most g c = IfOk-weaker c.combined_with.result _ _ (λ L r. length_of_one_alone c.args.self.now c.args.other.now L r) c.combined_with.ensures
