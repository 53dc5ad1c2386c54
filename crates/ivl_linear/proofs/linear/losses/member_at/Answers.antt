use Rattle.std.proofs.Common.{◌≡◌, refl, arith}
use Rattle.std.proofs.lemmas.Int.{ints}
use Rattle.ivl_linear.proofs.linear.losses.member_at.Goals as goal
use mir.Syntax.{w64, w128}
use mir.Val.{to_z, of_z}

pub returns-then-contains : goal.returns-then-contains
returns-then-contains g c =
    let a = c.args.coefficient in let value = c.args.value in
    let ea : to_z w64 (of_z w64 a) ≡ a = omega (arith, ints) in
    let ev : to_z w128 (of_z w128 value) ≡ value = omega (arith, ints) in
    let w = rw (ea, ev) at (c.window_at-window.ensures (g.B.Width.value c.lower_bound-low.result)) in
    (c.if-contains.ensures.0 refl, (w.0 (c.if-not-contains.ensures.0 refl)).1)
