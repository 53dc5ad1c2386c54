use Rattle.ivl_laws.specs.Sets.{Only}
use Rattle.ivl_laws.proofs.Counts.{only_of_count, IsCountOf-only, IsCountOf-same}
use Rattle.ivl_laws.proofs.SetLaws.{same_members_sym}
use Rattle.ivl_set_laws.proofs.sizes.small_counts.Goals as goal

pub returns-clause-one : goal.returns-clause-one
returns-clause-one g c = (only_of_count g.S.NumberSet.members, λ (x, e). IsCountOf-same (Only x) g.S.NumberSet.members 1 (same_members_sym g.S.NumberSet.members (Only x) e) (IsCountOf-only x))
