use Rattle.ivl_laws.proofs.Counts.{count_of_complement}
use Rattle.ivl_set_laws.proofs.sizes.complement_counts.Goals as goal

pub returns : goal.returns
returns g c = λ whole. count_of_complement whole g.S.NumberSet.members
