use Rattle.std.proofs.Common.{ℤ, arith, subst, sym}
use Rattle.std.proofs.lemmas.Int.{clamps, ints}
use Rattle.ivl_laws.specs.Sets.{IsInRange}
use Rattle.ivl_laws.proofs.Orders.{max_number}
use Rattle.ivl_laws.proofs.Ranges.{bounds_in_range_at}
use Rattle.ivl_paged.proofs.parts.IntervalSetParts.end_from.Goals as goal

pub returns-clause-in_order : goal.returns-clause-in_order
returns-clause-in_order g c = let most = max_number g.met.B.Width.ordered _ _ _ c.max.ensures in omega (arith, ints, clamps, most)

pub returns-clause-at_most : goal.returns-clause-at_most
returns-clause-at_most g c =
    let most = max_number g.met.B.Width.ordered _ _ _ c.max.ensures in
    let upper = c.upper_bound.ensures in
    let d : ℤ × ℤ = c.index-rest-1536.result in
    let there : IsInRange g.B.Width.whole d = subst (IsInRange g.B.Width.whole) (sym c.index-rest-1536.is) (bounds_in_range_at g.B.Width.whole c.runs_within-rest.result.now 1536 d c.runs_within-rest.ensures.within (let more = c.if-rest-le-WINDOW_RUNS.false in omega (arith, more))) in
    let high = there.1 in
    let last = c.requires.in_range.1 in
    omega (arith, ints, clamps, most, upper, high, last)
