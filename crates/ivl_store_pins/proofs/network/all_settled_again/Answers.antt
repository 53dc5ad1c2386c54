use Rattle.std.proofs.Common.{true}
use Rattle.ivl_store_pins.proofs.network.all_settled_again.Goals as goal

pub returns : goal.returns
returns g c = λ back. c.undo_to.ensures.settled back true (c.requires true)
