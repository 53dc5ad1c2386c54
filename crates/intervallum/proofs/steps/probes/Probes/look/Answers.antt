use Rattle.std.proofs.Common.{ℤ, ◌≤ℤ◌, ◌<◌, List, length, ap, refl, sym, subst, ◌≡◌, Some, slice_get}
use Rattle.std.proofs.lemmas.Option.{slice_get_read}
use Rattle.ivl_laws.proofs.Places.{open_at}
use Rattle.intervallum.proofs.steps.probes.Probes.look.Goals as goal

pub returns-clause-has_member : goal.returns-clause-has_member
returns-clause-has_member g c =
    let P : ℤ × ℤ → Type 0 = λ r. r.0 ≤ℤ r.1 in
    let Q : List (ℤ × ℤ) → Type 0 = λ L. c.args.i < length L in
    subst P (sym c.index-runs-i.is) (open_at c.self.inside.runs.now c.args.i c.index-runs-i.result c.self.invariant.maximal (subst Q (sym (ap (λ s. s.runs) c.self.view_is)) c.requires))

pub bounds-runs-i : goal.bounds-runs-i
bounds-runs-i g c =
    let Q : List (ℤ × ℤ) → Type 0 = λ L. c.args.i < length L in
    subst Q (sym (ap (λ s. s.runs) c.self.view_is)) c.requires

pub returns-clause-run : goal.returns-clause-run
returns-clause-run g c =
    let P : List (ℤ × ℤ) → Type 0 = λ L. slice_get L c.args.i ≡ Some c.index-runs-i.result in
    let Q : List (ℤ × ℤ) → Type 0 = λ L. c.args.i < length L in
    let same = ap (λ s. s.runs) c.self.view_is in
    subst P same (slice_get_read c.self.inside.runs.now (length c.self.inside.runs.now) c.args.i c.index-runs-i.result refl (subst Q (sym same) c.requires) c.index-runs-i.is)
