use Rattle.std.proofs.Common.{refl}
use Rattle.ivl_network.specs.RuleHashes.{mixed_with}
use Rattle.ivl_network.proofs.network.index.mixed.Goals as goal

pub returns : goal.returns
unfolding mixed_with
returns c = refl
