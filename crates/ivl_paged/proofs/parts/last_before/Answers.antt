use Rattle.std.proofs.Common.{arith}
use Rattle.std.proofs.lemmas.Int.{ints}
use Rattle.ivl_paged.proofs.Paging.{covers_page}
use Rattle.ivl_paged.proofs.parts.last_before.Goals as goal

pub sub_in_range-requires : goal.sub_in_range-requires
sub_in_range-requires g c =
    let h = g.B.Width.value c.head.result in
    let one = c.one.ensures in
    let (n, le, s) = c.requires.starts in
    let lt = s.above c.args.i h le c.head.ensures.0 in
    let low = c.requires.in_range.0 in
    let high = (c.requires.runs.within h (covers_page c.args.pages.now c.args.i h c.head.ensures.0)).1 in
    (omega (arith, ints, lt, low, one), omega (arith, ints, high, one))

pub returns-then-i-len-clause-in_order : goal.returns-then-i-len-clause-in_order
returns-then-i-len-clause-in_order g c =
    let one = c.one.ensures in
    let less = c.sub_in_range.ensures in
    let (n, le, s) = c.requires.starts in
    let lt = s.above c.args.i (g.B.Width.value c.head.result) le c.head.ensures.0 in
    omega (arith, ints, lt, less, one)

pub returns-then-i-len-clause-at_most : goal.returns-then-i-len-clause-at_most
returns-then-i-len-clause-at_most g c =
    let h = g.B.Width.value c.head.result in
    let one = c.one.ensures in
    let less = c.sub_in_range.ensures in
    let high = (c.requires.runs.within h (covers_page c.args.pages.now c.args.i h c.head.ensures.0)).1 in
    omega (arith, ints, high, less, one)
