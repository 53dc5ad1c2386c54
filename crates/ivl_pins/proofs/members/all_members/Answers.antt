use Rattle.std.proofs.Common.{ℤ, List}
use Rattle.std.proofs.lemmas.Iterator.Consumers.{YieldsList-from_first, map_from_collect}
use Rattle.ivl_places.specs.Members.{members_of}
use Rattle.ivl_pins.proofs.members.all_members.Goals as goal

pub returns : goal.returns
returns g c = map_from_collect c.collect.result c.collect.ensures.ran (YieldsList-from_first g.B.Width.value (λ (l : List ℤ). l) (members_of c.args.set.now) c.members.ensures.left)
