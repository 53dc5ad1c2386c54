use Rattle.std.proofs.Common.{arith}
use Rattle.std.proofs.lemmas.Int.{ints}
use Rattle.ivl_store.proofs.store.by_words.sum_of.Goals as goal

pub returns-clause-near : goal.returns-clause-near
returns-clause-near c = let a = c.requires.x.0 in let b = c.requires.x.1 in let d = c.requires.y.0 in let e = c.requires.y.1 in (omega (arith, ints), omega (arith, ints))
