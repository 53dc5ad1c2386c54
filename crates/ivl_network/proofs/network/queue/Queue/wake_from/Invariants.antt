use Rattle.std.proofs.Common.{◌≡◌}
use Rattle.ivl_laws.specs.Families.{set_at}
use Rattle.ivl_network.specs.Queue.{IsRuleQueue}
use Rattle.ivl_network.specs.Settled.{StaysBeside}
use Rattle.ivl_network.proofs.Queues.{WokenSoFar}
use Rattle.ivl_network.proofs.network.queue.Queue.wake_from.Given as goal

abbrev pub invariant-loop-place : goal.invariant-loop-place
invariant-loop-place g l = IsRuleQueue l.self × WokenSoFar l.singles l.rules l.variable (StaysBeside l.keeps_one l.variable (set_at l.store)) l.fn.self.settled.items l.self.settled.items l.place
    × (l.self.round.items ≡ l.fn.self.round.items)

abbrev pub decreases-loop-place : goal.decreases-loop-place
decreases-loop-place g l = l.place
