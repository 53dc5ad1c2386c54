use Rattle.std.proofs.Common.{◌+◌, ◌/◌, ◌≤◌, arith}
use Rattle.ivl_paged.proofs.Totals.{group_passed, sum_goes}
use Rattle.ivl_paged.proofs.sizes.pass_groups.Goals as goal

pub groups-preserved : goal.groups-preserved
groups-preserved g c =
    let P = c.args.pages.now in
    let reached = sum_goes c.args.sizes.now P c.groups.group c.groups.reached c.requires.sizes c.groups.invariant.0 in
    let low = c.groups.invariant.1 in
    let (from, most, left) = group_passed P c.groups.group c.args.from c.args.count _ c.total_to-base.result c.in-Some.rest c.min-place.result low c.requires.at_most c.requires.exact c.total_to-base.ensures reached c.in-Some.ensures.0 c.in-Some.ensures.1 (omega (arith, c.min-place.ensures, c.saturating_mul.ensures)) in
    (reached, let more : c.args.from / 64 ≤ c.groups.group + 1 = omega (arith, low) in more, from, most, left)
