use Rattle.ivl_store.proofs.Words.{one_bit}
use Rattle.ivl_store.proofs.store.words.bit.Goals as goal

pub returns : goal.returns
returns c = λ p. one_bit c.args.place p c.requires
