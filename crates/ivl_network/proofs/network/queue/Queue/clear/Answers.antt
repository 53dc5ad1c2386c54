use Rattle.std.proofs.Common.{arith}
use Rattle.ivl_network.proofs.Queues.{room_to_wait}
use Rattle.ivl_network.proofs.network.queue.Queue.clear.Goals as goal

pub push_reserved-requires : goal.push_reserved-requires
push_reserved-requires c =
    let r = room_to_wait c.args.self.now c.args.k _ c.requires.queue c.requires.in_list c.requires.settled in
    let n = c.args.self.now.late.ok.0 in let l = r.1 in omega (arith, l, n)

pub push_reserved-requires-else-is_late : goal.push_reserved-requires-else-is_late
push_reserved-requires-else-is_late c =
    let r = room_to_wait c.args.self.now c.args.k _ c.requires.queue c.requires.in_list c.requires.settled in
    let n = c.args.self.now.later.ok.0 in let l = r.0 in omega (arith, l, n)
