use Rattle.ivl_within.proofs.Moved.{part_pushed}
use Rattle.ivl_within.proofs.within.moved.push_part.Goals as goal

pub returns : goal.returns
returns g c = part_pushed c.args.entries.now.items c.push.new.self.items c.args.part c.in_ok-push.ensures.items
