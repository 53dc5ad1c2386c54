use Rattle.ivl_store.proofs.Counts.{total_is_sum}
use Rattle.ivl_store.proofs.store.laws.total_is_sum_of_counts.Goals as goal

pub returns : goal.returns
returns g c = total_is_sum c.args.domains.now
