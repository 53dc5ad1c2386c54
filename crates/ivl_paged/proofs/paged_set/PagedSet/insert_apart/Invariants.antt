use Rattle.ivl_paged.proofs.InPlace.{IsAddedSoFar}
use Rattle.ivl_paged.proofs.paged_set.PagedSet.insert_apart.Given as goal

abbrev pub invariant-loop-run : goal.invariant-loop-run
invariant-loop-run g l = IsAddedSoFar l.initial.self l.self l.added.items l.runs l.run-index
