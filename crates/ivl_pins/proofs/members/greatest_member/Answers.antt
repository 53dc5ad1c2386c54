use Rattle.ivl_laws.specs.Runs.{Covers}
use Rattle.ivl_pins.proofs.Greatest.{greatest_from_back}
use Rattle.ivl_pins.proofs.members.greatest_member.Goals as goal

pub returns : goal.returns
returns g c = greatest_from_back g.B.Width.value (Covers c.args.set.now) c.members.result c.next_back.new.self c.next_back.result c.members.ensures.members c.members.ensures.ascending c.next_back.ensures.steps
