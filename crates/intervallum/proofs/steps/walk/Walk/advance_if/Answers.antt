use Rattle.std.proofs.Common.{◌∙◌, ◌+◌, ℤ, List, drop, ap, sym, subst, arith}
use Rattle.ivl_walks.specs.HeldRun.{IsTakenIf}
use Rattle.ivl_walks.proofs.Walking.{place_if, taken_if}
use Rattle.intervallum.proofs.steps.walk.Walk.advance_if.Goals as goal

pub returns-clause-taken : goal.returns-clause-taken
returns-clause-taken g c =
    let e = ap (λ w. w.left) c.self.view_is in
    let P : List (ℤ × ℤ) → Type 0 = λ L. IsTakenIf c.args.condition L (drop (c.self.inside.taken + c.from.result) c.self.inside.runs.now) in
    subst P e (taken_if c.args.condition c.self.inside.runs.now c.self.inside.taken c.from.result (λ t h. c.requires t (sym e ∙ h)) c.from.ensures)

pub overflow_add-self : goal.overflow_add-self
overflow_add-self g c =
    let e = ap (λ w. w.left) c.self.view_is in
    let there = place_if c.args.condition c.self.inside.runs.now c.self.inside.taken c.from.result (λ t h. c.requires t (sym e ∙ h)) c.from.ensures c.self.invariant.1 in
    omega (arith, there)

pub invariant_of-self : goal.invariant_of-self
invariant_of-self g c =
    let e = ap (λ w. w.left) c.self.view_is in
    (c.self.invariant.0, place_if c.args.condition c.self.inside.runs.now c.self.inside.taken c.from.result (λ t h. c.requires t (sym e ∙ h)) c.from.ensures c.self.invariant.1)
