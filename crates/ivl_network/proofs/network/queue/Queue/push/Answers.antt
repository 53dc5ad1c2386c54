use Rattle.std.proofs.Common.{arith, ◌∙◌, ◌∷◌, ◌++◌, [], ap}
use Rattle.ivl_network.proofs.Queues.{pushed}
use Rattle.ivl_network.proofs.network.queue.Queue.push.Goals as goal

pub returns-clause-queue : goal.returns-clause-queue
returns-clause-queue c =
    let n = c.len-count.ensures in let m = c.len.ensures in let o = c.len-2.ensures in let q = c.len-3.ensures in
    let room = c.in_ok-reserve.ensures.ok in let room_later = c.in_ok-reserve-2.ensures.ok in let room_late = c.in_ok-reserve-3.ensures.ok in
    let a = c.reserve.ensures.len in let b = c.reserve-2.ensures.len in let d = c.reserve-3.ensures.len in let cap = c.push_reserved.ensures.capacity in
    pushed c.args.self.now _ c.len-count.result c.requires (let l = c.args.self.now.settled.ok.0 in omega (arith, n, l)) c.in_ok-push.ensures.items
    c.reserve.ensures.items (c.push_reserved.ensures.items ∙ ap (λ l. l ++ c.len-count.result ∷ []) c.reserve-2.ensures.items)
    c.reserve-3.ensures.items (omega (arith, n, m, room, a)) (omega (arith, n, o, room_later, b, cap)) (omega (arith, n, q, room_late, d))
