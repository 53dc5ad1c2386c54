use Rattle.std.proofs.Common.{arith}
use Rattle.std.proofs.lemmas.Int.{by_lt_z}
use Rattle.ivl_images.proofs.Images.{open_here}
use Rattle.ivl_laws.specs.Runs.{Covers}
use Rattle.ivl_laws.proofs.Adding.{untrue}
use Rattle.ivl_laws.proofs.Orders.{lt_number}
use Rattle.ivl_within.specs.Within.{SumsBy}
use Rattle.ivl_within.proofs.Stretches.{has_some, run_kept, run_whole}
use Rattle.ivl_within.proofs.within.fronts.count_kept.Goals as goal

pub lower-requires : goal.lower-requires
lower-requires g c = has_some c.index-runs-count.result (open_here c.args.runs.now c.runs.count c.index-runs-count.result c.requires.runs c.runs-test.true c.index-runs-count.is)

pub upper-requires : goal.upper-requires
upper-requires g c = has_some c.index-runs-count.result (open_here c.args.runs.now c.runs.count c.index-runs-count.result c.requires.runs c.runs-test.true c.index-runs-count.is)

pub upper-requires-else-not-front : goal.upper-requires-else-not-front
upper-requires-else-not-front g c = has_some c.index-runs-count.result (open_here c.args.runs.now c.runs.count c.index-runs-count.result c.requires.runs c.runs-test.true c.index-runs-count.is)

pub stretch-front-requires-clause-in_range : goal.stretch-front-requires-clause-in_range
stretch-front-requires-clause-in_range g c = (c.lower.ensures.in_range.0, c.upper.ensures.in_range.1)

pub runs-preserved : goal.runs-preserved
runs-preserved g c =
    let v = g.B.Width.value in
    let S = SumsBy c.args.op (Covers c.args.a.now) (Covers c.args.b.now) in
    let front = c.stretch-front.result in
    let i = c.runs.invariant in
    let whole = run_whole S c.index-runs-count.result (v c.lower.result) (v c.upper.result) (v c.upper-else-not-front.result) front.is_met (v front.reach) (v front.next) c.stretch-front.ensures c.if-not-front.false
    c.lower.ensures.value c.upper-else-not-front.ensures.value
    (by_lt_z (v front.reach) (v c.upper-else-not-front.result) (λ h. absurd (untrue _ c.if-lt.false (lt_number g.met.B.Width.ordered _ _ _ c.lt.ensures) h)) (λ h. h)) in
    record {
      at_most = omega (arith, c.runs-test.true);
      kept = run_kept S c.args.runs.now c.runs.count c.index-runs-count.result c.runs-test.true c.index-runs-count.is whole i.kept;
    }
