use Rattle.ivl_store.proofs.Orders.{left_ordered}
use Rattle.ivl_store.proofs.store.laws.order_plays_no_part.Goals as goal

pub returns : goal.returns
returns g c = left_ordered c.args.posts.now c.args.others.now
