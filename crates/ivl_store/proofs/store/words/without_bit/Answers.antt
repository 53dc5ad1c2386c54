use Rattle.std.proofs.Common.{refl}
use Rattle.std.proofs.lemmas.Nat.{and_le_l}
use Rattle.ivl_store.proofs.Words.{less_without, place_fits, without}
use Rattle.ivl_store.proofs.store.words.without_bit.Goals as goal

pub bit-requires : goal.bit-requires
bit-requires c = place_fits c.args.word c.args.place c.ranges.word.fits c.requires

pub returns-clause-left : goal.returns-clause-left
returns-clause-left c = λ p.
    let left = without c.args.word c.bit.result p c.ranges.word.fits c.bit.type_inv in
    let one = c.bit.ensures p in (
      (λ h. let u = left.0 h in (u.0, λ same. u.1 (one.1 same))),
      (λ h. left.1 (h.0, λ k. h.1 (one.0 k))),
    )

pub returns-clause-less : goal.returns-clause-less
returns-clause-less c =
    let left = without c.args.word c.bit.result c.args.place c.ranges.word.fits c.bit.type_inv in
    less_without c.args.word _ c.args.place (and_le_l c.args.word _) c.requires (λ h. (left.0 h).1 ((c.bit.ensures c.args.place).1 refl))
