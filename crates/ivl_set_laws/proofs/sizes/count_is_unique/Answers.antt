use Rattle.ivl_laws.proofs.Counts.{count_is_unique}
use Rattle.ivl_set_laws.proofs.sizes.count_is_unique.Goals as goal

pub returns : goal.returns
returns g c = count_is_unique g.S.NumberSet.members
