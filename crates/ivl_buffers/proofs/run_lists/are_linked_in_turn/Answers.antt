use Rattle.std.proofs.Common.{arith}
use Rattle.ivl_buffers.proofs.Links.{linked_end}
use Rattle.ivl_buffers.proofs.run_lists.are_linked_in_turn.Goals as goal

pub returns : goal.returns
returns g c =
    let past = c.loop-i-test.false in
    let end = linked_end g.R.Pair.pair g.R.Bound.Width.whole c.args.runs.now c.loop-i.i (omega arith) in
    ((λ t. c.loop-i.invariant.0 (t, end)), (λ l. (c.loop-i.invariant.1 l).0))
