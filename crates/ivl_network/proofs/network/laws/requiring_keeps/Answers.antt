use Rattle.ivl_network.proofs.Histories.{requiring_keeps as keeps}
use Rattle.ivl_network.proofs.network.laws.requiring_keeps.Goals as goal

pub returns : goal.returns
returns c = keeps
