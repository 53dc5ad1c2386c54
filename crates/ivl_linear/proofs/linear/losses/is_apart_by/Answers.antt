use Rattle.std.proofs.Common.{◌≡◌, ◌≤◌, ◌^◌, ◌-ℤ◌, ◌≤ℤ◌, arith}
use Rattle.std.proofs.lemmas.Int.{ints}
use Rattle.ivl_laws.specs.Runs.{Covers}
use Rattle.ivl_linear.proofs.Apart.{apart_by_ends}
use Rattle.ivl_linear.proofs.Casts.{back}
use Rattle.ivl_linear.proofs.linear.losses.is_apart_by.Goals as goal

pub difference-width-requires-clause-sum : goal.difference-width-requires-clause-sum
difference-width-requires-clause-sum g c = let light = c.requires.light in let small = c.greatest_of.ensures.small in let e = back c.greatest_of.result c.greatest_of.type_inv in rw e (omega arith)

pub difference-width-requires-clause-own : goal.difference-width-requires-clause-own
difference-width-requires-clause-own g c = let light = c.requires.light in let small = c.least_of.ensures.small in let e = back c.least_of.result c.least_of.type_inv in rw e (omega arith)

pub returns : goal.returns
returns g c = λ _.
    let m = c.least_of.result in let most = c.greatest_of.result in
    let em = back m c.least_of.type_inv in let eo = back most c.greatest_of.type_inv in
    let value = rw (em, eo) at c.difference-width.ensures.value in let fits = c.if-spare-width.false in
    let apart : (most -ℤ m) ≤ℤ c.args.spare = omega (arith, ints) in
    apart_by_ends c.args.term.now.coefficient (Covers c.args.domain.now) m most c.args.spare c.least_of.ensures.least c.greatest_of.ensures.greatest apart
