use Rattle.ivl_laws.proofs.Places.{covers-permutation}
use Rattle.ivl_set_laws.proofs.run_lists.order_of_pairs.Goals as goal

pub returns : goal.returns
returns c = covers-permutation
