use Rattle.std.proofs.Common.{arith}
use Rattle.std.proofs.lemmas.Int.{ints}
use Rattle.ivl_store.proofs.store.by_words.base_of.Goals as goal

pub overflow_cast-result : goal.overflow_cast-result
overflow_cast-result g c =
    let near = c.requires.near _ c.lower.ensures.member c.lower.ensures.least in let a = near.0 in let b = near.1 in let is = c.number.ensures in omega (arith, ints)

pub returns-clause-least : goal.returns-clause-least
returns-clause-least g c = λ v m.
    let near = c.requires.near _ c.lower.ensures.member c.lower.ensures.least in let a = near.0 in let b = near.1 in let is = c.number.ensures in
    let l = c.lower.ensures.least v m in omega (arith, ints)

pub returns-clause-near : goal.returns-clause-near
returns-clause-near g c =
    let near = c.requires.near _ c.lower.ensures.member c.lower.ensures.least in let a = near.0 in let b = near.1 in let is = c.number.ensures in
    (omega (arith, ints), omega (arith, ints))
