use Rattle.std.proofs.Common.{ℤ, List, ap, subst}
use Rattle.ivl_laws.specs.Runs.{IsRunListIn}
use Rattle.ivl_laws.proofs.Ranges.{IsRunListIn-drop}
use Rattle.intervallum.proofs.steps.walk.Walk.rest.Goals as goal

pub returns-clause-runs : goal.returns-clause-runs
returns-clause-runs g c =
    let P : List (ℤ × ℤ) → Type 0 = λ L. IsRunListIn g.B.Width.whole L in
    subst P (ap (λ w. w.left) c.self.view_is) (IsRunListIn-drop g.B.Width.whole c.self.inside.runs.now c.self.inside.taken c.self.invariant.0)
