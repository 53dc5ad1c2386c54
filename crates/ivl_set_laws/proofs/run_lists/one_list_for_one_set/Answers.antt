use Rattle.ivl_laws.proofs.SetLaws.{IsRunsOf-unique, same_members_refl}
use Rattle.ivl_set_laws.proofs.run_lists.one_list_for_one_set.Goals as goal

pub returns : goal.returns
returns g c = λ L M. IsRunsOf-unique g.S.NumberSet.members g.S.NumberSet.members L M (same_members_refl g.S.NumberSet.members)
