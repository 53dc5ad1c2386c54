use Rattle.std.proofs.Common.{◌≡◌, ◌≤ℤ◌, ◌<ℤ◌, ◌<◌, length, get_or, arith}
use Rattle.std.proofs.lemmas.Int.{ints}
use Rattle.ivl_laws.proofs.Intervals.{some_is_not_crossed}
use Rattle.ivl_laws.proofs.Orders.{le_number, not_le_number}
use Rattle.ivl_map.proofs.Lists.{open_at}
use Rattle.ivl_map.proofs.Lookups.{met_is}
use Rattle.ivl_map.proofs.Searching.{above_at}
use Rattle.ivl_map.proofs.writes.in_the_way.Goals as goal

pub lower-requires : goal.lower-requires
lower-requires g c =
    let E = c.args.entries.now in
    let r = c.index-entries-at.result in
    let most = c.requires.at_most in
    let some = c.if-at-entries.false in
    (some_is_not_crossed (get_or E c.args.at r).0).1 (open_at g.V.PartialEq.eq E c.args.at r c.requires.entries (omega (arith, most, some)))

pub returns-then-le : goal.returns-then-le
returns-then-le g c =
    let E = c.args.entries.now in
    let i = c.args.at in
    let r = c.index-entries-at.result in
    let most = c.requires.at_most in
    let some = c.if-at-entries.false in
    let less : i < length E = omega (arith, most, some) in
    let le : g.B.Width.value c.lower.result ≤ℤ g.B.Width.value c.upper.result = (le_number g.met.B.Width.ordered _ _ _ c.le.ensures).0 c.if-le.true in
    let low : g.B.Width.value c.lower.result ≡ (get_or E i r).0.0 = c.lower.ensures.value in
    let up : g.B.Width.value c.upper.result ≡ c.args.interval.1 = c.upper.ensures.value in
    let here : (get_or E i r).0.0 ≤ℤ c.args.interval.1 = omega (arith, ints, le, low, up) in
    ((get_or E i r).1, met_is g.V.PartialEq.eq g.met.V.Eq.laws c.args.interval E i r c.requires.filled c.requires.entries less c.requires.below c.requires.from here)

pub returns-else-le : goal.returns-else-le
returns-else-le g c =
    let E = c.args.entries.now in
    let i = c.args.at in
    let r = c.index-entries-at.result in
    let most = c.requires.at_most in
    let some = c.if-at-entries.false in
    let less : i < length E = omega (arith, most, some) in
    let lt : g.B.Width.value c.upper.result <ℤ g.B.Width.value c.lower.result = not_le_number g.met.B.Width.ordered _ _ _ c.le.ensures c.if-le.false in
    let low : g.B.Width.value c.lower.result ≡ (get_or E i r).0.0 = c.lower.ensures.value in
    let up : g.B.Width.value c.upper.result ≡ c.args.interval.1 = c.upper.ensures.value in
    let here : c.args.interval.1 <ℤ (get_or E i r).0.0 = omega (arith, ints, lt, low, up) in
    record { at_most = most; below = c.requires.below; above = above_at c.args.interval.1 E i r less here }
