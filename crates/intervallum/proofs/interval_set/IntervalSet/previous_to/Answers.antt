use Rattle.std.proofs.Common.{ℤ, List, subst}
use Rattle.ivl_laws.specs.Runs.{Covers}
use lib.Signed.{≤ℤ_refl}
use Rattle.ivl_places.proofs.Finding.{covered_at_place}
use Rattle.intervallum.proofs.interval_set.IntervalSet.previous_to.Goals as goal

pub returns-in-In : goal.returns-in-In
returns-in-In g c =
    let v = g.B.Width.value c.args.v in
    let in_set = subst (λ (L : List (ℤ × ℤ)). Covers L v) c.new-runs.ensures.runs (covered_at_place c.new-runs.result.runs c.in-In.field-0 v c.in-In.ensures.place) in
    ((in_set, ≤ℤ_refl v), λ z s. s.1)
