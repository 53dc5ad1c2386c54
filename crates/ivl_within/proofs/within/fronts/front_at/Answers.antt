use Rattle.std.proofs.Common.{◌∙◌, ◌+◌, ℤ, ap, arith}
use Rattle.ivl_images.proofs.Images.{open_here}
use Rattle.ivl_laws.proofs.Orders.{le_number, max_number, not_le}
use Rattle.ivl_within.proofs.Fronts.{front_at_none, front_begins, front_is, front_meets, front_met, front_stays, row_fits}
use Rattle.ivl_within.proofs.within.fronts.front_at.Goals as goal
use Rattle.ivl_within.proofs.within.fronts.front_at.Goals.{then-le+else-le-2, else-le}

pub loop-run-init : goal.loop-run-init
loop-run-init g c = front_begins c.args.op g.B.Width.whole c.args.a.now c.args.b.now (g.B.Width.value c.args.from) (g.B.Width.value c.max_value.result) c.max_value.ensures

pub begun-count-requires-clause-filled : goal.begun-count-requires-clause-filled
begun-count-requires-clause-filled g c = open_here c.args.a.now c.loop-run.run-index c.run-item.result c.requires.left c.loop-run-test.true c.run-item.is

pub begun-count-requires-clause-fits : goal.begun-count-requires-clause-fits
begun-count-requires-clause-fits g c = row_fits c.args.op g.B.Width.whole c.args.a.now c.args.b.now c.loop-run.run-index c.run-item.result c.loop-run-test.true c.run-item.is c.requires.fits

pub begun-count-requires-clause-count : goal.begun-count-requires-clause-count
begun-count-requires-clause-count g c = c.loop-run.invariant.at_most

pub next_of-front-requires-clause-filled : goal.next_of-front-requires-clause-filled
next_of-front-requires-clause-filled g c = open_here c.args.a.now c.loop-run.run-index c.run-item.result c.requires.left c.loop-run-test.true c.run-item.is

pub next_of-front-requires-clause-fits : goal.next_of-front-requires-clause-fits
next_of-front-requires-clause-fits g c = row_fits c.args.op g.B.Width.whole c.args.a.now c.args.b.now c.loop-run.run-index c.run-item.result c.loop-run-test.true c.run-item.is c.requires.fits

pub result_at-requires-clause-filled : goal.result_at-requires-clause-filled
result_at-requires-clause-filled g c = open_here c.args.a.now c.loop-run.run-index c.run-item.result c.requires.left c.loop-run-test.true c.run-item.is

pub result_at-requires-clause-fits : goal.result_at-requires-clause-fits
result_at-requires-clause-fits g c = row_fits c.args.op g.B.Width.whole c.args.a.now c.args.b.now c.loop-run.run-index c.run-item.result c.loop-run-test.true c.run-item.is c.requires.fits

pub result_at-requires-clause-place : goal.result_at-requires-clause-place
result_at-requires-clause-place g c = let m = c.loop-run.invariant.at_most in omega (arith, m, c.begun-count.ensures.at_most, c.if-count-eq0.false)

pub returns-then-count-eq0 : goal.returns-then-count-eq0
returns-then-count-eq0 g c =
    let v = g.B.Width.value in
    front_at_none c.args.op g.B.Width.whole c.args.a.now c.args.b.now (v c.args.from) c.requires.fits c.loop-run.run-index c.loop-run.count c.loop-run.front.is_met (v c.loop-run.front.reach) (v c.loop-run.front.next)
    c.requires.left c.requires.right c.loop-run.invariant c.loop-run-test.true c.run-item.result c.run-item.is c.begun-count.result c.begun-count.ensures.at_most c.begun-count.ensures.begun c.begun-count.ensures.not_begun
    (v c.next_of-front.result) c.next_of-front.ensures.at_place (λ h. ap v (c.next_of-front.ensures.at_end h)) (omega (arith, c.if-count-eq0.true))

pub returns-then-le-2 : goal.returns-then-le-2
returns-then-le-2 g c =
    let v = g.B.Width.value in
    let i = c.loop-run.run-index in
    front_met c.args.op g.B.Width.whole c.args.a.now c.args.b.now (v c.args.from) (i + 1) c.begun-count.result (v c.max-front.result) (v c.next_of-front.result)
    (front_meets c.args.op g.B.Width.whole c.args.a.now c.args.b.now (v c.args.from) c.requires.fits i c.loop-run.count c.loop-run.front.is_met (v c.loop-run.front.reach) (v c.loop-run.front.next)
    c.requires.left c.requires.right c.loop-run.invariant c.loop-run-test.true c.run-item.result c.run-item.is c.begun-count.result c.begun-count.ensures.at_most c.begun-count.ensures.begun c.begun-count.ensures.not_begun
    (v c.next_of-front.result) c.next_of-front.ensures.at_place (λ h. ap v (c.next_of-front.ensures.at_end h))
    (omega (arith, c.if-count-eq0.false)) (v c.upper_bound-end.result) (c.upper_bound-end.ensures ∙ ap (λ (r : ℤ × ℤ). r.1) c.result_at.ensures)
    (v c.max-front.result) ((le_number g.met.B.Width.ordered _ _ _ c.le.ensures).0 c.if-le.true) (max_number g.met.B.Width.ordered _ _ _ c.max-front.ensures))

pub loop-run-preserved : goal.loop-run-preserved
loop-run-preserved g c =
    let v = g.B.Width.value in
    let i = c.loop-run.run-index in
    let ends = c.upper_bound-end.ensures ∙ ap (λ (r : ℤ × ℤ). r.1) c.result_at.ensures in
    elim c.if-le.branch [
      | then-le+else-le-2 s ↦ rw s.front-is (front_meets c.args.op g.B.Width.whole c.args.a.now c.args.b.now (v c.args.from) c.requires.fits i c.loop-run.count c.loop-run.front.is_met (v c.loop-run.front.reach) (v c.loop-run.front.next)
          c.requires.left c.requires.right c.loop-run.invariant c.loop-run-test.true c.run-item.result c.run-item.is c.begun-count.result c.begun-count.ensures.at_most c.begun-count.ensures.begun c.begun-count.ensures.not_begun
          (v c.next_of-front.result) c.next_of-front.ensures.at_place (λ h. ap v (c.next_of-front.ensures.at_end h))
          (omega (arith, c.if-count-eq0.false)) (v c.upper_bound-end.result) ends
          (v s.max-front.result) ((le_number g.met.B.Width.ordered _ _ _ c.le.ensures).0 s.if-le.true) (max_number g.met.B.Width.ordered _ _ _ s.max-front.ensures))
      | else-le s ↦ rw s.front-is (front_stays c.args.op g.B.Width.whole c.args.a.now c.args.b.now (v c.args.from) c.requires.fits i c.loop-run.count c.loop-run.front.is_met (v c.loop-run.front.reach) (v c.loop-run.front.next)
          c.requires.left c.requires.right c.loop-run.invariant c.loop-run-test.true c.run-item.result c.run-item.is c.begun-count.result c.begun-count.ensures.at_most c.begun-count.ensures.begun c.begun-count.ensures.not_begun
          (v c.next_of-front.result) c.next_of-front.ensures.at_place (λ h. ap v (c.next_of-front.ensures.at_end h))
          (omega (arith, c.if-count-eq0.false)) (v c.upper_bound-end.result) ends (not_le _ _ _ (le_number g.met.B.Width.ordered _ _ _ c.le.ensures) s.if-le.false))
    ]

pub returns : goal.returns
returns g c =
    let v = g.B.Width.value in
    front_is c.args.op g.B.Width.whole c.args.a.now c.args.b.now (v c.args.from) c.requires.fits c.loop-run.run-index c.loop-run.count c.loop-run.front.is_met (v c.loop-run.front.reach) (v c.loop-run.front.next)
    c.loop-run-test.false c.loop-run.invariant
