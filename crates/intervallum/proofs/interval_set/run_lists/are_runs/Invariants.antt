use Rattle.ivl_places.proofs.Listing.{IsReadTo}
use Rattle.intervallum.proofs.interval_set.run_lists.are_runs.Given as goal

abbrev pub invariant-loop-run : goal.invariant-loop-run
invariant-loop-run g l = IsReadTo l.last g.B.Width.whole l.fn.list l.rest l.run-index
