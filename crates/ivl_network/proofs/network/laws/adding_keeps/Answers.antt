use Rattle.ivl_network.proofs.Histories.{adding_keeps as keeps}
use Rattle.ivl_network.proofs.network.laws.adding_keeps.Goals as goal

pub returns : goal.returns
returns c = keeps
