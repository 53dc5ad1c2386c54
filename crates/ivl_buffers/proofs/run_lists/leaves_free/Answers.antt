use Rattle.ivl_laws.proofs.Orders.{lt_number}
use Rattle.ivl_buffers.proofs.RunLists.{free_is}
use Rattle.ivl_buffers.proofs.run_lists.leaves_free.Goals as goal

pub returns : goal.returns
returns g c =
    let o = g.met.R.Bound.Width.ordered in
    free_is (g.R.Pair.pair c.args.last) (g.R.Pair.pair c.args.run) c.lt.result _ _ _ c.upper-end.ensures c.lower-start.ensures (lt_number o _ _ _ c.lt.ensures) c.one_if.ensures
    _ c.lt-2.result c.add_in_range.ensures (lt_number o _ _ _ c.lt-2.ensures)
