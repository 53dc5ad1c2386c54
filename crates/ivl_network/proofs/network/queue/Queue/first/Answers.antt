use Rattle.std.proofs.Common.{◌∙◌, arith, ap, length, sym, get_or, false}
use Rattle.ivl_network.proofs.Queues.{last_of, waiting}
use Rattle.ivl_network.proofs.network.queue.Queue.first.Goals as goal

pub returns-clause-first : goal.returns-clause-first
returns-clause-first c =
    let n = c.len-count.ensures in let l = c.turn.new.self.round.ok.0 in let t = c.if-count-eq0.false in
    let front = last_of c.turn.new.self.round.items c.index.result.now (omega (arith, n, l, t))
    (c.index.ensures ∙ ap (λ k. get_or c.turn.new.self.round.items k c.index.result.now) (omega (arith, n, l))) in
    let w = waiting c.turn.new.self front.0 c.index.result.now c.turn.ensures.queue front.1 in
    ((let e = ap length c.turn.ensures.settled in let a = w.0 in omega (arith, a, e)), ap (λ ms. get_or ms c.index.result.now false) (sym c.turn.ensures.settled) ∙ w.1, front.0, front.1)
