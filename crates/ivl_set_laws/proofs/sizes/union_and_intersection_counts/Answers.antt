use Rattle.ivl_laws.proofs.Counts.{union_and_intersection}
use Rattle.ivl_set_laws.proofs.sizes.union_and_intersection_counts.Goals as goal

pub returns : goal.returns
returns g c = union_and_intersection g.S.NumberSet.members g.T.NumberSet.members
