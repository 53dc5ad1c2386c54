use Rattle.ivl_network.proofs.Budgets.{HasMade}
use Rattle.ivl_network.proofs.network.Network.settle_within.Given as goal

abbrev pub invariant-loop-cost : goal.invariant-loop-cost
invariant-loop-cost g l = HasMade g.B.Width.whole l.budget l.left l.fn.self l.self

abbrev pub decreases-loop-cost : goal.decreases-loop-cost
decreases-loop-cost g l = l.left
