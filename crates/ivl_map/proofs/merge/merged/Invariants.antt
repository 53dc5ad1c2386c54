use Rattle.std.proofs.Common.{Ok, ◌+◌, ◌-◌, length}
use Rattle.std.specs.Fn.{FnReturnsAtPair}
use Rattle.ivl_map.proofs.Merging.{IsMerging}
use Rattle.ivl_map.proofs.merge.merged.Given as goal

abbrev pub invariant-walk : goal.invariant-walk
invariant-walk g l = IsMerging g.V.PartialEq.eq (λ v w x. FnReturnsAtPair g.F.Fn l.both v w (Ok x)) g.B.Width.whole l.entries l.others l.i l.j l.rest l.made.items

abbrev pub decreases-walk : goal.decreases-walk
decreases-walk g l = (length l.entries - l.i) + (length l.others - l.j)
