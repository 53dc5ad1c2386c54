use Rattle.ivl_network.proofs.Families.{KeepsUnder-trans}
use Rattle.ivl_network.proofs.network.laws.settling_keeps.Goals as goal

pub returns : goal.returns
returns c = KeepsUnder-trans
