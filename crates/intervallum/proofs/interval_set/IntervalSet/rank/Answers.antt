use Rattle.std.proofs.Common.{◌+◌, ℕ, ℤ, ◌≤ℤ◌, List, take, subst, sym, arith}
use Rattle.ivl_laws.specs.Counts.{IsCountOf}
use Rattle.ivl_laws.specs.Sets.{Below}
use Rattle.ivl_laws.specs.Runs.{Covers, IsRunListIn}
use Rattle.ivl_laws.proofs.Orders.{le_number}
use Rattle.ivl_places.proofs.Ranks.{ranks_all, ranks_done, ranks_fit, ranks_more, ranks_none}
use Rattle.intervallum.proofs.interval_set.IntervalSet.rank.Goals as goal

pub loop-run-init : goal.loop-run-init
loop-run-init g c = ranks_none c.as_runs-runs.result.now (g.B.Width.value c.args.v) _ c.zero-count.ensures

pub returns-then-le : goal.returns-then-le
returns-then-le g c =
    subst (λ (M : List (ℤ × ℤ)). IsCountOf (g.B.Output.SizeNumber.size c.loop-run.count) (Below (g.B.Width.value c.args.v) (Covers M))) c.as_runs-runs.ensures.same
    (ranks_done c.as_runs-runs.result.now c.loop-run.run-index c.run-item.result
    (subst (IsRunListIn g.B.Width.whole) (sym c.as_runs-runs.ensures.same) c.as_runs-runs.ensures.runs).maximal c.loop-run-test.true c.run-item.is
    (g.B.Width.value c.args.v) _ (subst (λ (z : ℤ). g.B.Width.value c.args.v ≤ℤ z) c.lower_bound.ensures ((le_number g.met.B.Width.ordered _ _ _ c.le.ensures).0 c.if-le.true)) c.loop-run.invariant)

pub unwrap-count-requires : goal.unwrap-count-requires
unwrap-count-requires g c =
    c.checked_add.ensures.known.1 (ranks_fit g.B.Width.whole c.as_runs-runs.result.now (c.loop-run.run-index + 1) (g.B.Width.value c.args.v) _ _
    (subst (IsRunListIn g.B.Width.whole) (sym c.as_runs-runs.ensures.same) c.as_runs-runs.ensures.runs) g.met.B.Width.countable
    (ranks_more c.as_runs-runs.result.now c.loop-run.run-index c.run-item.result
    (subst (IsRunListIn g.B.Width.whole) (sym c.as_runs-runs.ensures.same) c.as_runs-runs.ensures.runs).maximal c.loop-run-test.true c.run-item.is
    c.strict_shrink_right.result (g.B.Width.value c.args.v) (g.B.Output.SizeNumber.size c.loop-run.count) (g.B.Output.SizeNumber.size c.size.result) c.strict_shrink_right.ensures c.loop-run.invariant c.size.ensures.members))

pub loop-run-preserved : goal.loop-run-preserved
loop-run-preserved g c =
    subst (λ (k : ℕ). IsCountOf k (Below (g.B.Width.value c.args.v) (Covers (take (c.loop-run.run-index + 1) c.as_runs-runs.result.now)))) (sym (rw c.unwrap-count.ensures at c.checked_add.ensures.same_number))
    (ranks_more c.as_runs-runs.result.now c.loop-run.run-index c.run-item.result
    (subst (IsRunListIn g.B.Width.whole) (sym c.as_runs-runs.ensures.same) c.as_runs-runs.ensures.runs).maximal c.loop-run-test.true c.run-item.is
    c.strict_shrink_right.result (g.B.Width.value c.args.v) (g.B.Output.SizeNumber.size c.loop-run.count) (g.B.Output.SizeNumber.size c.size.result) c.strict_shrink_right.ensures c.loop-run.invariant c.size.ensures.members)

pub returns : goal.returns
returns g c =
    subst (λ (M : List (ℤ × ℤ)). IsCountOf (g.B.Output.SizeNumber.size c.loop-run.count) (Below (g.B.Width.value c.args.v) (Covers M))) c.as_runs-runs.ensures.same
    (ranks_all c.as_runs-runs.result.now c.loop-run.run-index (g.B.Width.value c.args.v) _ (omega arith) c.loop-run.invariant)
