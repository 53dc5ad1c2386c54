use Rattle.ivl_laws.proofs.Products.{one_run_is_one_pair, both_covered}
use Rattle.ivl_set_laws.proofs.run_lists.one_run_is_one_pair.Goals as goal

pub returns : goal.returns
returns c = λ L x y m. (one_run_is_one_pair L x y m, both_covered L x y)
