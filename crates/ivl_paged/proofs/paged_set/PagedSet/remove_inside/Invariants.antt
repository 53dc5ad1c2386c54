use Rattle.ivl_paged.proofs.InPlace.{IsRemovedSoFar}
use Rattle.ivl_paged.proofs.paged_set.PagedSet.remove_inside.Given as goal

abbrev pub invariant-loop-run : goal.invariant-loop-run
invariant-loop-run g l = IsRemovedSoFar l.initial.self l.self l.removed.items l.runs l.run-index
