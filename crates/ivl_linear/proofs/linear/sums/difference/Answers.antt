use Rattle.std.proofs.Common.{◌≡◌, ◌-ℤ◌, arith}
use Rattle.std.proofs.lemmas.Int.{ints}
use Rattle.ivl_linear.proofs.Casts.{rest_small}
use Rattle.ivl_linear.proofs.Least.{abs_high, abs_low}
use Rattle.ivl_linear.proofs.linear.sums.difference.Goals as goal
use mir.Syntax.{w128}
use mir.Val.{to_z, of_z}

pub overflow_sub-result : goal.overflow_sub-result
overflow_sub-result c = let sh = abs_high c.args.sum in let sl = abs_low c.args.sum in let oh = abs_high c.args.own in let ol = abs_low c.args.own in let s = c.requires.sum in let o = c.requires.own in omega (arith, ints)

pub returns : goal.returns
returns c =
    let sh = abs_high c.args.sum in let sl = abs_low c.args.sum in let oh = abs_high c.args.own in let ol = abs_low c.args.own in let s = c.requires.sum in let o = c.requires.own in
    let e : to_z w128 (of_z w128 (to_z w128 (of_z w128 c.args.sum) -ℤ to_z w128 (of_z w128 c.args.own))) ≡ c.args.sum -ℤ c.args.own = omega (arith, ints) in
    record { value = e; small = rw e (rest_small c.args.sum c.args.own c.requires.sum c.requires.own) }
