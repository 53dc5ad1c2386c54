use Rattle.std.proofs.Common.{ℤ, length, ap, take_all, List, arith}
use Rattle.ivl_laws.specs.Bounds.{width_of}
use Rattle.ivl_places.specs.Members.{members_of}
use Rattle.ivl_places.proofs.MemberCounts.{left_counted, more_counted}
use Rattle.intervallum.proofs.interval_set.members.count_of.Goals as goal

pub loop-run-preserved : goal.loop-run-preserved
loop-run-preserved g c =
    let more = more_counted c.args.between.now c.loop-run.run-index c.run-item.result c.loop-run-test.true in
    let w = ap width_of c.run-item.is in
    let a = c.size-in-loop-run.ensures.width in
    let b = c.number-in-loop-run.ensures.number in
    let s = c.saturating_add-count-in-loop-run.ensures in
    omega (arith, c.loop-run.invariant)

pub returns : goal.returns
returns g c =
    let all = ap (λ (L : List (ℤ × ℤ)). length (members_of L)) (take_all c.loop-run.run-index c.args.between.now c.loop-run-test.false) in
    let e = left_counted c.args.first.now c.args.last.now c.args.between.now in
    omega (arith, c.loop-run.invariant)
