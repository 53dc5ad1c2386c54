use Rattle.std.proofs.Common.{arith, inl, inr}
use Rattle.std.proofs.lemmas.Int.{ints}
use Rattle.ivl_store.proofs.store.words.word_of_run.Goals as goal

pub bits_between-requires-clause-fits : goal.bits_between-requires-clause-fits
bits_between-requires-clause-fits g c = elim c.last_place.ensures [
  | inl k ↦ let is = k.1 in omega (arith, is)
  | inr k ↦ let e = k.1 in let m = k.0 in omega (arith, ints)
]

pub returns : goal.returns
returns g c = λ p small.
    let bit = c.bits_between.ensures p in
    let low = c.above-low.ensures in let high = c.above-high.ensures in let l = c.lower_bound.ensures in let u = c.upper_bound.ensures in
    elim c.first_place.ensures [
      | inl k ↦ elim c.last_place.ensures [
        | inl m ↦ (let a = k.0 in let b = k.1 in let d = m.0 in let e = m.1 in (
          (λ h. let f = (bit.0 h).0 in let t = (bit.0 h).1 in (omega (arith, ints), omega (arith, ints))),
          (λ h. let f = h.0 in let t = h.1 in bit.1 (omega (arith, ints), omega (arith, ints))),
        ))
        | inr m ↦ (let a = k.0 in let b = k.1 in let d = m.0 in let e = m.1 in (
          (λ h. let f = (bit.0 h).0 in let t = (bit.0 h).1 in (omega (arith, ints), omega (arith, ints))),
          (λ h. let f = h.0 in let t = h.1 in bit.1 (omega (arith, ints), omega (arith, ints))),
        ))
      ]
      | inr k ↦ elim c.last_place.ensures [
        | inl m ↦ (let a = k in let d = m.0 in let e = m.1 in (
          (λ h. let f = (bit.0 h).0 in let t = (bit.0 h).1 in (omega (arith, ints), omega (arith, ints))),
          (λ h. let f = h.0 in let t = h.1 in bit.1 (omega (arith, ints), omega (arith, ints))),
        ))
        | inr m ↦ (let a = k in let d = m.0 in let e = m.1 in (
          (λ h. let f = (bit.0 h).0 in let t = (bit.0 h).1 in (omega (arith, ints), omega (arith, ints))),
          (λ h. let f = h.0 in let t = h.1 in bit.1 (omega (arith, ints), omega (arith, ints))),
        ))
      ]
    ]
