use Rattle.std.proofs.Common.{arith}
use Rattle.std.proofs.lemmas.Int.{ints}
use Rattle.ivl_laws.specs.Runs.{Covers}
use Rattle.ivl_laws.proofs.Orders.{le_number, not_le}
use Rattle.ivl_within.specs.Within.{SumsBy}
use Rattle.ivl_within.proofs.Stretches.{added_all, added_none, nearer, next_below, nothing_next}
use Rattle.ivl_within.proofs.within.fronts.push_results.Goals as goal

pub fronts-init : goal.fronts-init
fronts-init g c = added_none (SumsBy c.args.op (Covers c.args.a.now) (Covers c.args.b.now)) c.args.run c.args.entries.now.items (g.B.Width.value c.lower-from.result) c.lower-from.ensures.value

pub stretch-front-requires-clause-in_range : goal.stretch-front-requires-clause-in_range
stretch-front-requires-clause-in_range g c =
    let low = c.lower-from.ensures.in_range.0 in
    let first = c.lower-from.ensures.value in
    let starts = c.fronts.invariant.starts in
    (omega (arith, ints, low, first, starts), c.upper-to.ensures.in_range.1)

pub push_stretch-requires : goal.push_stretch-requires
push_stretch-requires g c =
    let low = c.lower-from.ensures.in_range.0 in
    let first = c.lower-from.ensures.value in
    let starts = c.fronts.invariant.starts in
    record { in_range = (omega (arith, ints, low, first, starts), c.upper-to.ensures.in_range.1) }

pub returns-then-le : goal.returns-then-le
returns-then-le g c =
    let v = g.B.Width.value in
    nothing_next (SumsBy c.args.op (Covers c.args.a.now) (Covers c.args.b.now)) c.args.run c.args.entries.now.items c.fronts.entries.items c.push_stretch.new.entries.items (v c.fronts.from) (v c.upper-to.result)
    c.stretch-front.result.is_met (v c.stretch-front.result.reach) (v c.stretch-front.result.next) c.upper-to.ensures.value c.stretch-front.ensures c.fronts.invariant
    c.in_ok-push_stretch.ensures.met c.in_ok-push_stretch.ensures.none ((le_number g.met.B.Width.ordered _ _ _ c.le-in-fronts.ensures).0 c.if-le.true)

pub fronts-smaller : goal.fronts-smaller
fronts-smaller g c =
    let v = g.B.Width.value in
    nearer (v c.fronts.from) (v c.stretch-front.result.next) (v c.upper-to.result) (not_le _ _ _ (le_number g.met.B.Width.ordered _ _ _ c.le-in-fronts.ensures) c.if-le.false)
    ((le_number g.met.B.Width.ordered _ _ _ c.le.ensures).0 c.fronts-test.true)

pub fronts-preserved : goal.fronts-preserved
fronts-preserved g c =
    let v = g.B.Width.value in
    next_below (SumsBy c.args.op (Covers c.args.a.now) (Covers c.args.b.now)) c.args.run c.args.entries.now.items c.fronts.entries.items c.push_stretch.new.entries.items (v c.fronts.from) (v c.upper-to.result)
    c.stretch-front.result.is_met (v c.stretch-front.result.reach) (v c.stretch-front.result.next) c.upper-to.ensures.value c.stretch-front.ensures c.fronts.invariant
    c.in_ok-push_stretch.ensures.met c.in_ok-push_stretch.ensures.none (not_le _ _ _ (le_number g.met.B.Width.ordered _ _ _ c.le-in-fronts.ensures) c.if-le.false)

pub returns : goal.returns
returns g c =
    let v = g.B.Width.value in
    added_all (SumsBy c.args.op (Covers c.args.a.now) (Covers c.args.b.now)) c.args.run c.args.entries.now.items c.fronts.entries.items (v c.fronts.from) (v c.upper-to.result) c.upper-to.ensures.value
    (not_le _ _ _ (le_number g.met.B.Width.ordered _ _ _ c.le.ensures) c.fronts-test.false) c.fronts.invariant
