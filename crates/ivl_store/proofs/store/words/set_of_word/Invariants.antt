use Rattle.ivl_store.proofs.Words.{Taken}
use Rattle.ivl_store.proofs.store.words.set_of_word.Given as goal

abbrev pub invariant-runs : goal.invariant-runs
invariant-runs g l = Taken l.base l.word l.rest l.set

abbrev pub decreases-runs : goal.decreases-runs
decreases-runs g l = l.rest
