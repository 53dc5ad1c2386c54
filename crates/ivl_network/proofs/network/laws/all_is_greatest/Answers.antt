use Rattle.ivl_network.proofs.Histories.{all_greatest}
use Rattle.ivl_network.proofs.network.laws.all_is_greatest.Goals as goal

pub returns : goal.returns
returns c = all_greatest
