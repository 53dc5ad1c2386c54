use Rattle.std.proofs.Common.{arith}
use Rattle.std.proofs.lemmas.Nat.{and_le_l}
use Rattle.ivl_store.proofs.Words.{above_place, less_without}
use Rattle.ivl_store.proofs.store.words.bits_above.Goals as goal

pub returns-clause-left : goal.returns-clause-left
returns-clause-left c = λ p. above_place c.args.word c.args.place p c.ranges.word.fits c.requires.fits

pub returns-clause-less : goal.returns-clause-less
returns-clause-less c =
    less_without c.args.word _ c.args.place (and_le_l c.args.word _) c.requires.set
    (λ h. let l = ((above_place c.args.word c.args.place c.args.place c.ranges.word.fits c.requires.fits).0 h).1 in omega (arith, l))
