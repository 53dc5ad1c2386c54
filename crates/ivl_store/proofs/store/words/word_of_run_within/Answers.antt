use Rattle.std.proofs.Common.{arith}
use Rattle.std.proofs.lemmas.Int.{ints}
use Rattle.ivl_store.proofs.store.words.word_of_run_within.Goals as goal

pub returns : goal.returns
returns g c = λ p small.
    let bit = c.bits_between.ensures p in
    let low = c.above.ensures in let high = c.above-2.ensures in let l = c.lower_bound.ensures in let u = c.upper_bound.ensures in
    let a = c.place_of-low.ensures in let d = c.place_of-high.ensures in (
      (λ h. let f = (bit.0 h).0 in let t = (bit.0 h).1 in (omega (arith, ints), omega (arith, ints))),
      (λ h. let f = h.0 in let t = h.1 in bit.1 (omega (arith, ints), omega (arith, ints))),
    )
