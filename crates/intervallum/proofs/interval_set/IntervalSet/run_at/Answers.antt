use Rattle.std.proofs.Common.{◌≡◌, ℤ, List, Some, subst}
use Rattle.std.specs.Prelude.{slice_get}
use Rattle.ivl_laws.specs.Runs.{Covers}
use Rattle.ivl_places.specs.Neighbours.{IsRunWith}
use Rattle.ivl_places.proofs.Finding.{place_is_less}
use Rattle.intervallum.proofs.interval_set.IntervalSet.run_at.Goals as goal

pub returns-in-In : goal.returns-in-In
returns-in-In g c =
    let run = c.look.result in
    let P : List (ℤ × ℤ) → Type 0 = λ L. slice_get L c.in-In.i ≡ Some run in
    let here = subst P c.find.ensures.same c.look.ensures.run in
    subst (λ (L : List (ℤ × ℤ)). IsRunWith (g.B.Width.value c.args.v) (Covers L) run) c.new-runs.ensures.runs (rw here at c.in-In.ensures.beside)

pub returns-in-Gap : goal.returns-in-Gap
returns-in-Gap g c = subst (λ (L : List (ℤ × ℤ)). ¬ (Covers L (g.B.Width.value c.args.v))) c.new-runs.ensures.runs c.in-Gap.ensures.place.0

pub look-requires : goal.look-requires
look-requires g c = rw c.find.ensures.same (place_is_less c.new-runs.result.runs c.in-In.i _ c.in-In.ensures.place)
