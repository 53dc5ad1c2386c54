use Rattle.std.proofs.Common.{◌≡◌, length}
use Rattle.ivl_network.specs.Queue.{IsRuleQueue, unsettled_count}
use Rattle.ivl_network.proofs.network.queue.Queue.settle_all.Given as goal

abbrev pub invariant-loop-k : goal.invariant-loop-k
invariant-loop-k l = IsRuleQueue l.self × (length l.self.settled.items ≡ length l.fn.self.settled.items)

abbrev pub decreases-loop-k : goal.decreases-loop-k
decreases-loop-k l = unsettled_count l.self.settled.items
