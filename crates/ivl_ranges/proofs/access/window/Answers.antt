use Rattle.std.proofs.Common.{arith}
use Rattle.std.proofs.lemmas.Int.{ints}
use Rattle.ivl_laws.specs.Runs.{Covers}
use Rattle.ivl_ranges.proofs.Windows.{window_is}
use Rattle.ivl_ranges.proofs.access.window.Goals as goal

pub returns-then-upper-last : goal.returns-then-upper-last
returns-then-upper-last c x b =
    let l = c.lower-lower.ensures in let u = c.upper-upper.ensures in let e = c.from-last.ensures in let i = c.if-upper-last.true in let j = l.in_range in let k = u.in_range in
    window_is (Covers c.args.offset.now) c.args.length _ _ x c.new.result _ l.member l.least u.member u.greatest c.new.ensures.members
    ((λ h. omega (arith, ints)), (λ h. omega (arith, ints))) ((λ h. omega (arith, ints)), (λ h. omega (arith, ints)))

pub returns : goal.returns
returns c x b =
    let l = c.lower-lower.ensures in let u = c.upper-upper.ensures in let e = c.from-last.ensures in let i = c.if-upper-last.false in let j = l.in_range in let k = u.in_range in
    window_is (Covers c.args.offset.now) c.args.length _ _ x c.new-2.result _ l.member l.least u.member u.greatest c.new-2.ensures.members
    ((λ h. omega (arith, ints)), (λ h. omega (arith, ints))) ((λ h. omega (arith, ints)), (λ h. omega (arith, ints)))
