use Rattle.std.proofs.Common.{◌≡◌, inl, inr, arith}
use Rattle.std.proofs.lemmas.Int.{ints, to_z-of_z}
use Rattle.ivl_linear.proofs.Telling.{le_says, lt_says}
use Rattle.ivl_linear.proofs.linear.told.answers_of.Goals as goal
use mir.Syntax.{w64, w128}
use mir.Val.{to_z, of_z}

pub returns : goal.returns
returns g c = λ z.
    let bound = c.args.bound in let least = c.args.least in let greatest = c.args.greatest in
    let el = to_z-of_z w128 least c.ranges.least in let eg = to_z-of_z w128 greatest c.ranges.greatest in
    let eb : to_z w128 (of_z w128 (to_z w64 (of_z w64 bound))) ≡ bound = omega (arith, ints) in
    let w = rw (el, eg, eb) at (c.answers.ensures z) in
    let le = le_says least bound in let lt = lt_says bound greatest in (
      (λ b. elim (w.0 b) [ inl h ↦ inl (h.0, le.0 h.1) | inr h ↦ inr (h.0, lt.0 h.1) ]),
      (λ p. w.1 (elim p [ inl h ↦ inl (h.0, le.1 h.1) | inr h ↦ inr (h.0, lt.1 h.1) ])),
    )
