use Rattle.std.proofs.Common.{◌≡◌, ◌∙◌, ◌+◌, ℤ, List, ◌∷◌, drop, ap, sym, subst, arith}
use Rattle.ivl_walks.proofs.Walking.{is_more, left_more}
use Rattle.intervallum.proofs.steps.walk.Walk.advance.Goals as goal

pub returns-clause-left : goal.returns-clause-left
returns-clause-left g c =
    let e = ap (λ w. w.left) c.self.view_is in
    let P : List (ℤ × ℤ) → Type 0 = λ L. (x : ℤ × ℤ) × (L ≡ x ∷ drop (c.self.inside.taken + 1) c.self.inside.runs.now) in
    subst P e (left_more c.self.inside.runs.now c.self.inside.taken (λ h. c.requires (sym e ∙ h)))

pub overflow_add-self : goal.overflow_add-self
overflow_add-self g c =
    let more = is_more c.self.inside.runs.now c.self.inside.taken (λ h. c.requires (sym (ap (λ w. w.left) c.self.view_is) ∙ h)) in
    omega (arith, more)

pub invariant_of-self : goal.invariant_of-self
invariant_of-self g c =
    let more = is_more c.self.inside.runs.now c.self.inside.taken (λ h. c.requires (sym (ap (λ w. w.left) c.self.view_is) ∙ h)) in
    (c.self.invariant.0, omega (arith, more))
