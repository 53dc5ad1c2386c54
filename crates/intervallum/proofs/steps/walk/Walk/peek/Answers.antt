use Rattle.std.proofs.Common.{arith, ◌≡◌, ℤ, List, slice_get, ap, subst}
use Rattle.std.proofs.lemmas.Grind.{common_steps}
use Rattle.ivl_laws.specs.Runs.{IsRunListIn}
use Rattle.ivl_laws.proofs.Ranges.{IsRunListIn-drop}
use Rattle.ivl_places.proofs.Finding.{first_is_filled}
use Rattle.intervallum.proofs.steps.walk.Walk.peek.Goals as goal

pub returns-clause-runs : goal.returns-clause-runs
returns-clause-runs g c =
    let P : List (ℤ × ℤ) → Type 0 = λ L. IsRunListIn g.B.Width.whole L in
    subst P (ap (λ w. w.left) c.self.view_is) (IsRunListIn-drop g.B.Width.whole c.self.inside.runs.now c.self.inside.taken c.self.invariant.0)

pub returns-clause-filled : goal.returns-clause-filled
returns-clause-filled g c =
    let P : List (ℤ × ℤ) → Type 0 = λ L. IsRunListIn g.B.Width.whole L in
    let runs = subst P (ap (λ w. w.left) c.self.view_is) (IsRunListIn-drop g.B.Width.whole c.self.inside.runs.now c.self.inside.taken c.self.invariant.0) in
    let first : c.copied.result ≡ slice_get c.args.self.now.left 0 = grind (arith, common_steps) in
    first_is_filled c.args.self.now.left c.copied.result runs.maximal first
