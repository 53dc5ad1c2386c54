use Rattle.ivl_store.proofs.Words.{between}
use Rattle.ivl_store.proofs.store.words.bits_between.Goals as goal

pub returns : goal.returns
returns c = λ p. between c.args.low c.args.high p c.requires.in_order c.requires.fits
