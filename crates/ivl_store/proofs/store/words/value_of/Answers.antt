use Rattle.std.proofs.Common.{arith}
use Rattle.std.proofs.lemmas.Int.{ints}
use Rattle.ivl_store.proofs.store.words.value_of.Goals as goal

pub unwrap-requires : goal.unwrap-requires
unwrap-requires g c =
    let a = c.requires.near.0 in let b = c.requires.near.1 in let s = c.requires.small in let low = c.requires.in_range.0 in let high = c.requires.in_range.1 in
    c.from_number.ensures.known.1 (omega (arith, ints), omega (arith, ints))

pub returns : goal.returns
returns g c =
    let a = c.requires.near.0 in let b = c.requires.near.1 in let s = c.requires.small in
    let is = rw c.unwrap.ensures at c.from_number.ensures.same_number in omega (arith, ints)
