use Rattle.std.proofs.Common.{◌<◌}
use Rattle.ivl_store.proofs.Words.{Found, top}
use Rattle.ivl_store.proofs.store.words.supported.Given as goal

abbrev pub invariant-places : goal.invariant-places
invariant-places l = record {
  found : Found l.x l.y l.z l.rest l.kept.x l.kept.y l.kept.z;
  fits : l.rest < top;
}

abbrev pub decreases-places : goal.decreases-places
decreases-places l = l.rest
