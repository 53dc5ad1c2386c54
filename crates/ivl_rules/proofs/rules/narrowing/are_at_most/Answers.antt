use Rattle.std.proofs.Common.{arith}
use Rattle.std.proofs.lemmas.Int.{ints}
use Rattle.ivl_rules.proofs.rules.narrowing.are_at_most.Goals as goal

pub returns : goal.returns
returns g c = λ _.
    let r = g.met.B.Width.range in let low = r.low_at_least in let high = r.high_at_most in
    let is = c.shift_of-shift.ensures.value in let small = c.shift_of-shift.ensures.small.0 in let small' = c.shift_of-shift.ensures.small.1 in
    record {
      first = (
        c.in_whole.ensures,
        λ z m.
            let above = c.upper-2.ensures.in_range.0 in let below = c.upper-2.ensures.in_range.1 in
            let k = c.upper-2.ensures.greatest z m in let un = c.number-3.ensures in let xn = c.number-4.ensures in let t = c.if-number-shift-2.false in
            (_, c.upper.ensures.member, omega (arith, ints)),
      );
      second = (
        c.in_whole-2.ensures,
        λ z m.
            let above = c.lower-2.ensures.in_range.0 in let below = c.lower-2.ensures.in_range.1 in
            let k = c.lower.ensures.least z m in let ln = c.number.ensures in let xn = c.number-2.ensures in let t = c.if-number-shift.false in
            (_, c.lower-2.ensures.member, omega (arith, ints)),
      );
    }
