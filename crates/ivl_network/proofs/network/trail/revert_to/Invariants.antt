use Rattle.std.proofs.Common.{length}
use Rattle.ivl_network.specs.Queue.{IsRuleIndex, IsRuleQueue}
use Rattle.ivl_network.specs.Settled.{claimed_flags}
use Rattle.ivl_network.proofs.Reverting.{RevertedSoFar}
use Rattle.ivl_network.proofs.network.trail.revert_to.Given as goal

abbrev pub invariant-loop-trail : goal.invariant-loop-trail
invariant-loop-trail g l = RevertedSoFar l.fn.trail.items l.trail.items (record { domains = l.fn.store; rules = l.fn.rules.items }) (record { domains = l.store; rules = l.rules.items }) l.start (claimed_flags l.wakes l.queue.settled.items) × IsRuleIndex (length l.store) l.rules.items l.index × IsRuleQueue l.queue

abbrev pub decreases-loop-trail : goal.decreases-loop-trail
decreases-loop-trail g l = length l.trail.items
