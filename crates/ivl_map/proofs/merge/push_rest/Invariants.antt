use Rattle.ivl_map.proofs.Merging.{IsPushed}
use Rattle.ivl_map.proofs.merge.push_rest.Given as goal

abbrev pub invariant-loop-entry : goal.invariant-loop-entry
invariant-loop-entry g l = IsPushed g.V.PartialEq.eq l.entries l.entry-index l.rest l.fn.made.items l.made.items
