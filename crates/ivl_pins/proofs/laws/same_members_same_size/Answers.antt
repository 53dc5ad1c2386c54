use Rattle.ivl_pins.proofs.Sizes.{equal_counts}
use Rattle.ivl_pins.proofs.laws.same_members_same_size.Goals as goal

pub returns : goal.returns
returns g c = equal_counts g.met.B.Output.SizeNumber.ordered _ _ _ _ _ c.requires c.size.ensures c.size-2.ensures c.eq.ensures
