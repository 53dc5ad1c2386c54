use Rattle.std.proofs.Common.{Ok, take}
use Rattle.std.specs.Fn.{FnReturnsAt}
use Rattle.ivl_laws.specs.Sets.{IsBetween}
use Rattle.ivl_map.specs.Changes.{IsUpdated}
use Rattle.ivl_map.proofs.updates.updated.Given as goal

abbrev pub invariant-loop-entry : goal.invariant-loop-entry
invariant-loop-entry g l = IsUpdated g.V.PartialEq.eq (λ v w. FnReturnsAt g.F.Fn l.change v (Ok w)) (IsBetween l.interval) (take l.entry-index l.entries) l.made.items
