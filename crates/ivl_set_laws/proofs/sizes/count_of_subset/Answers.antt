use Rattle.ivl_laws.proofs.Counts.{count_is_monotone, same_count_same_members}
use Rattle.ivl_set_laws.proofs.sizes.count_of_subset.Goals as goal

pub returns-clause-at_most : goal.returns-clause-at_most
returns-clause-at_most g c = count_is_monotone g.S.NumberSet.members g.T.NumberSet.members

pub returns-clause-all : goal.returns-clause-all
returns-clause-all g c = same_count_same_members g.S.NumberSet.members g.T.NumberSet.members
