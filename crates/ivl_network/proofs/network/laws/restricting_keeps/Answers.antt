use Rattle.ivl_network.proofs.Histories.{cut_keeps}
use Rattle.ivl_network.proofs.network.laws.restricting_keeps.Goals as goal

pub returns : goal.returns
returns c = cut_keeps
