use Rattle.std.proofs.Common.{arith, ap}
use Rattle.ivl_network.proofs.Queues.{count_none}
use Rattle.ivl_network.proofs.network.queue.remove.Goals as goal

pub returns-clause-removed : goal.returns-clause-removed
returns-clause-removed c = (ap (λ v. v.items) c.loop-place.invariant.0, count_none c.args.list.now.items c.args.k (λ j lt. c.loop-place.invariant.2 j (let t = c.loop-place-test.false in omega (arith, t)) lt))
