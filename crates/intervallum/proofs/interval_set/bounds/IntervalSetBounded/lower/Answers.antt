use Rattle.std.proofs.Common.{ℤ, ◌≤ℤ◌, sym, subst}
use Rattle.ivl_laws.proofs.Places.{open_at}
use Rattle.ivl_laws.proofs.Intervals.{some_is_not_crossed}
use Rattle.ivl_places.proofs.Finding.{least_of_first, some_has_length}
use Rattle.intervallum.proofs.interval_set.bounds.IntervalSetBounded.lower.Goals as goal

pub lower-requires : goal.lower-requires
lower-requires g c =
    let L = c.self.inside.intervals.items in
    let P : ℤ × ℤ → Type 0 = λ r. r.0 ≤ℤ r.1 in
    (some_is_not_crossed c.index.result.now).1
    (subst P (sym c.index.ensures) (open_at L 0 c.index.result.now c.self.invariant.0.maximal (some_has_length L c.args.self.now c.self.view_is c.requires)))

pub returns-clause-least : goal.returns-clause-least
returns-clause-least g c =
    (least_of_first c.self.inside.intervals.items c.args.self.now c.index.result.now _ c.self.view_is c.self.invariant.0.maximal c.requires c.index.ensures c.lower.ensures.value).1

pub returns-clause-member : goal.returns-clause-member
returns-clause-member g c =
    (least_of_first c.self.inside.intervals.items c.args.self.now c.index.result.now _ c.self.view_is c.self.invariant.0.maximal c.requires c.index.ensures c.lower.ensures.value).0
