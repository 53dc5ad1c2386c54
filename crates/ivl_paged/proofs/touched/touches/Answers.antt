use Rattle.std.proofs.Common.{◌≤ℤ◌, List, ℤ, subst}
use Rattle.ivl_laws.proofs.Orders.{le_number}
use Rattle.ivl_laws.specs.Runs.{Covers}
use Rattle.ivl_laws.specs.Sets.{AtLeast}
use Rattle.ivl_places.specs.Neighbours.{IsLeast}
use Rattle.ivl_paged.proofs.Touching.{touched_by_next}
use Rattle.ivl_paged.proofs.touched.touches.Goals as goal

pub returns-in-Some : goal.returns-in-Some
returns-in-Some g c =
    touched_by_next g.B.Width.whole (Covers c.args.page.now) c.args.interval.now _ _ _ _ _ c.le.result
    (subst (λ (L : List (ℤ × ℤ)). (z : ℤ) → Covers L z → (g.B.Width.whole.0 ≤ℤ z) × (z ≤ℤ g.B.Width.whole.1)) c.set.ensures.same c.in_whole.ensures.within)
    c.lower.ensures.value c.upper.ensures.value c.one_below.ensures c.one_above-upper.ensures
    (subst (λ (L : List (ℤ × ℤ)). IsLeast (g.B.Width.value c.in-Some.next) (AtLeast (g.B.Width.value c.one_below.result) (Covers L))) c.set-2.ensures.same c.in-Some.ensures)
    (le_number g.met.B.Width.ordered _ _ _ c.le.ensures)
