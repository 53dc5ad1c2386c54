use Rattle.std.proofs.Common.{◌*ℤ◌, ◌<ℤ◌, ℤ, arith, subst}
use Rattle.std.proofs.lemmas.Int.{ints}
use Rattle.ivl_linear.proofs.linear.losses.has_two_values.Goals as goal

pub returns-then-least-greatest : goal.returns-then-least-greatest
returns-then-least-greatest g c = λ _.
    let a = c.args.term.now.coefficient in let m = c.least_of-least.result in let most = c.greatest_of-greatest.result in
    let low = c.least_of-least.ensures.least.reached in let high = c.greatest_of-greatest.ensures.greatest.reached in
    let t = c.if-least-greatest.true in
    let less : m <ℤ most = omega (arith, ints) in
    (low.0, high.0, low.1, high.1, subst (λ (x : ℤ). x <ℤ (a *ℤ high.0)) low.2 (subst (λ (y : ℤ). m <ℤ y) high.2 less))
