use Rattle.std.proofs.Common.{◌+◌, ◌<◌, ℕ, ℤ, List, subst, sym, arith, true≢false}
use Rattle.ivl_laws.specs.Bounds.{width_of}
use Rattle.ivl_laws.specs.Counts.{IsCountOf}
use Rattle.ivl_laws.specs.Sets.{Below}
use Rattle.ivl_laws.specs.Runs.{Covers, IsRunListIn}
use Rattle.ivl_places.proofs.Ranks.{counts_all, counts_more, counts_none, no_room, nth_has_below, nth_is_member}
use Rattle.intervallum.proofs.interval_set.IntervalSet.nth.Goals as goal

pub loop-run-init : goal.loop-run-init
loop-run-init g c = (0, omega arith, counts_none c.as_runs-runs.result.now)

pub member_at-requires : goal.member_at-requires
member_at-requires g c = no_room _ _ _ c.size.ensures.width (λ le. true≢false (sym (c.in-None.ensures.known.1 le)))

pub returns-in-None : goal.returns-in-None
returns-in-None g c =
    let (m, e, a) = c.loop-run.invariant in
    let x = g.B.Width.value c.member_at.result in
    let n = g.B.Output.SizeNumber.size c.loop-run.left in
    let less : n < width_of c.run-item.result = no_room _ _ _ c.size.ensures.width (λ le. true≢false (sym (c.in-None.ensures.known.1 le))) in (
      subst (λ (M : List (ℤ × ℤ)). Covers M x) c.as_runs-runs.ensures.same (nth_is_member c.as_runs-runs.result.now c.loop-run.run-index c.run-item.result (subst (IsRunListIn g.B.Width.whole) (sym c.as_runs-runs.ensures.same) c.as_runs-runs.ensures.runs).maximal c.loop-run-test.true c.run-item.is x m n c.member_at.ensures less a),
      subst (λ (M : List (ℤ × ℤ)). IsCountOf (g.B.Output.SizeNumber.size c.args.i) (Below x (Covers M))) c.as_runs-runs.ensures.same
          (subst (λ (k : ℕ). IsCountOf k (Below x (Covers c.as_runs-runs.result.now))) e (nth_has_below c.as_runs-runs.result.now c.loop-run.run-index c.run-item.result (subst (IsRunListIn g.B.Width.whole) (sym c.as_runs-runs.ensures.same) c.as_runs-runs.ensures.runs).maximal c.loop-run-test.true c.run-item.is x m n c.member_at.ensures less a)),
    )

pub loop-run-preserved : goal.loop-run-preserved
loop-run-preserved g c =
    let (m, e, a) = c.loop-run.invariant in
    let f = c.in-Some.ensures.same_number in
    (m + g.B.Output.SizeNumber.size c.size.result, omega (arith, e, f), counts_more c.as_runs-runs.result.now c.loop-run.run-index c.run-item.result (subst (IsRunListIn g.B.Width.whole) (sym c.as_runs-runs.ensures.same) c.as_runs-runs.ensures.runs).maximal c.loop-run-test.true c.run-item.is m (g.B.Output.SizeNumber.size c.size.result) a c.size.ensures.members)

pub returns : goal.returns
returns g c n b =
    let (m, e, a) = c.loop-run.invariant in
    let all = counts_all c.as_runs-runs.result.now c.loop-run.run-index m n (omega arith) a (subst (λ (M : List (ℤ × ℤ)). IsCountOf n (Covers M)) (sym c.as_runs-runs.ensures.same) b) in
    omega (arith, e, all)
