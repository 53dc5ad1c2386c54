use Rattle.std.specs.Prelude.{take}
use Rattle.ivl_laws.specs.Runs.{Covers}
use Rattle.ivl_store.specs.Words.{IsWordOf}
use Rattle.ivl_store.proofs.store.words.word_within.Given as goal

abbrev pub invariant-loop-run : goal.invariant-loop-run
invariant-loop-run g l = IsWordOf l.word l.base (Covers (take l.run-index l.runs))
