use Rattle.std.proofs.Common.{arith, subst, sym}
use Rattle.ivl_store.specs.Words.{HasBit}
use Rattle.ivl_store.proofs.Words.{all_bits, first_bits_end, first_bits_fit, first_bits_set, from_lowest, place_fits, some_bits}
use Rattle.ivl_store.proofs.store.words.first_bits.Goals as goal

pub returns-then-word-eq18446744073709551615-clause-set : goal.returns-then-word-eq18446744073709551615-clause-set
returns-then-word-eq18446744073709551615-clause-set c = λ p from to. subst (λ n. HasBit n p) (sym c.if-word-eq18446744073709551615.true) (all_bits p (omega (arith, to)))

pub overflow_sub-result : goal.overflow_sub-result
overflow_sub-result c =
    let some = some_bits c.args.word c.trailing_ones-count.result c.ranges.word.fits c.requires c.if-word-eq18446744073709551615.false c.trailing_ones-count.ensures in omega (arith, some)

pub returns-clause-in_order : goal.returns-clause-in_order
returns-clause-in_order c =
    let some = some_bits c.args.word c.trailing_ones-count.result c.ranges.word.fits c.requires c.if-word-eq18446744073709551615.false c.trailing_ones-count.ensures in omega (arith, some)

pub returns-clause-fits : goal.returns-clause-fits
returns-clause-fits c = first_bits_fit c.args.word c.trailing_ones-count.result c.ranges.word.fits c.requires c.if-word-eq18446744073709551615.false c.trailing_ones-count.ensures

pub returns-clause-set : goal.returns-clause-set
returns-clause-set c = first_bits_set c.args.word c.trailing_ones-count.result c.ranges.word.fits c.requires c.if-word-eq18446744073709551615.false c.trailing_ones-count.ensures

pub returns-then-word-eq18446744073709551615-clause-ends : goal.returns-then-word-eq18446744073709551615-clause-ends
returns-then-word-eq18446744073709551615-clause-ends c = λ h. absurd (let l = place_fits c.args.word 64 c.ranges.word.fits h in omega (arith, l))

pub returns-clause-lowest : goal.returns-clause-lowest
returns-clause-lowest c = from_lowest c.args.word c.ranges.word.fits c.requires

pub returns-clause-ends : goal.returns-clause-ends
returns-clause-ends c = first_bits_end c.args.word c.trailing_ones-count.result c.ranges.word.fits c.requires c.if-word-eq18446744073709551615.false c.trailing_ones-count.ensures
