use Rattle.std.proofs.Common.{◌≡◌, ℤ, List, Some, subst}
use Rattle.std.specs.Prelude.{slice_get}
use Rattle.ivl_laws.specs.Runs.{IsRunListIn}
use Rattle.ivl_laws.proofs.Orders.{le_number}
use Rattle.ivl_laws.proofs.Intervals.{some_is_not_crossed}
use Rattle.ivl_places.proofs.Finding.{held_by_none, holds_at_place, place_is_less}
use Rattle.intervallum.proofs.interval_set.inclusion.holder.Goals as goal

pub returns-then-le-clause-held : goal.returns-then-le-clause-held
returns-then-le-clause-held g c =
    let P : List (ℤ × ℤ) → Type 0 = λ L. IsRunListIn g.B.Width.whole L in
    let Q : List (ℤ × ℤ) → Type 0 = λ L. slice_get L c.in-In.i ≡ Some c.look-other.result in
    holds_at_place c.args.runs.now.runs c.in-In.i c.look-other.result c.args.run.now _ _ _ c.le.result
    (subst P c.find_from.ensures.same c.look-other.ensures.runs).maximal c.requires.filled (subst Q c.find_from.ensures.same c.look-other.ensures.run) c.in-In.ensures.place
    c.lower.ensures.value c.upper.ensures.value c.upper-in-In.ensures.value (le_number g.met.B.Width.ordered _ _ _ c.le.ensures) c.if-le.true

pub returns-else-le-clause-held : goal.returns-else-le-clause-held
returns-else-le-clause-held g c =
    let P : List (ℤ × ℤ) → Type 0 = λ L. IsRunListIn g.B.Width.whole L in
    let Q : List (ℤ × ℤ) → Type 0 = λ L. slice_get L c.in-In.i ≡ Some c.look-other.result in
    held_by_none c.args.runs.now.runs c.in-In.i c.look-other.result c.args.run.now _ _ _ c.le.result
    (subst P c.find_from.ensures.same c.look-other.ensures.runs).maximal c.requires.filled (subst Q c.find_from.ensures.same c.look-other.ensures.run) c.in-In.ensures.place
    c.lower.ensures.value c.upper.ensures.value c.upper-in-In.ensures.value (le_number g.met.B.Width.ordered _ _ _ c.le.ensures) c.if-le.false

pub lower-requires : goal.lower-requires
lower-requires g c = (some_is_not_crossed c.args.run.now).1 c.requires.filled

pub upper-requires : goal.upper-requires
upper-requires g c = (some_is_not_crossed c.args.run.now).1 c.requires.filled

pub upper-requires-in-In : goal.upper-requires-in-In
upper-requires-in-In g c = (some_is_not_crossed c.look-other.result).1 c.look-other.ensures.has_member

pub find_from-requires-clause-below : goal.find_from-requires-clause-below
find_from-requires-clause-below g c = rw c.lower.ensures.value c.requires.below

pub look-other-requires : goal.look-other-requires
look-other-requires g c = rw c.find_from.ensures.same (place_is_less c.args.runs.now.runs c.in-In.i _ c.in-In.ensures.place)
