use Rattle.ivl_store.proofs.Orders.{greatest_ordered}
use Rattle.ivl_store.proofs.store.laws.list_order_plays_no_part.Goals as goal

pub returns : goal.returns
returns c = greatest_ordered c.args.constraints.now c.args.others.now
