use Rattle.std.proofs.Common.{refl, sym, true≢false, arith}
use Rattle.std.proofs.lemmas.Int.{ints}
use Rattle.ivl_laws.proofs.Adding.{untrue}
use Rattle.ivl_laws.proofs.Intervals.{not_crossed, within_is_in_range}
use Rattle.ivl_places.proofs.Listing.{first_is_read, next_is_read, next_is_apart, all_are_read}
use Rattle.intervallum.proofs.interval_set.run_lists.are_runs.Goals as goal
use Rattle.intervallum.proofs.interval_set.run_lists.are_runs.Goals.{then-is_empty-2-via-then-is_empty-2, then-is_empty-2-via-else-is_empty-2+then-joins}

pub loop-run-init : goal.loop-run-init
loop-run-init g c =
    first_is_read c.in-Some.first.now g.B.Width.whole _ _ c.in-Some.ensures.cases.0 (not_crossed _ (untrue _ c.if-is_empty.false c.is_empty.ensures.crossed)) c.in_whole.ensures

pub joins-requires-clause-last : goal.joins-requires-clause-last
joins-requires-clause-last g c = (c.loop-run.invariant.runs.filled, within_is_in_range g.B.Width.whole c.loop-run.last c.loop-run.invariant.runs.filled c.in_whole-in-loop-run-2.ensures)

pub loop-run-preserved : goal.loop-run-preserved
loop-run-preserved g c =
    next_is_read c.loop-run.last c.run-item.result g.B.Width.whole _ _ c.loop-run.run-index c.loop-run.invariant c.loop-run-test.true c.run-item.is
    (not_crossed _ (untrue _ c.if-is_empty-2.false c.is_empty-in-loop-run.ensures.crossed)) (untrue _ c.if-joins.false c.joins.ensures) c.in_whole-in-loop-run.ensures

pub returns-clause-test : goal.returns-clause-test
returns-clause-test g c = ((λ _. (all_are_read _ g.B.Width.whole _ _ _ c.loop-run.invariant c.loop-run-test.false).maximal), (λ _. refl))

pub returns-clause-range : goal.returns-clause-range
returns-clause-range g c = λ _. all_are_read _ g.B.Width.whole _ _ _ c.loop-run.invariant c.loop-run-test.false

pub returns-then-is_empty-2-clause-test : goal.returns-then-is_empty-2-clause-test
returns-then-is_empty-2-clause-test g c = (
  λ t. absurd (true≢false (sym t)),
  λ m.
      let next = next_is_apart c.loop-run.last c.run-item.result g.B.Width.whole _ _ c.loop-run.run-index c.loop-run.invariant c.loop-run-test.true c.run-item.is m in
      let filled = next.0 in
      let apart = next.1 in
      elim c.then-is_empty-2.branch [
        | then-is_empty-2-via-then-is_empty-2 w ↦
            let crossed = c.is_empty-in-loop-run.ensures.crossed.0 w.if-is_empty-2.true in
            absurd (omega (arith, ints, filled, crossed))
        | then-is_empty-2-via-else-is_empty-2+then-joins w ↦
            let joined = w.joins.ensures.0 w.if-joins.true in
            absurd (omega (arith, ints, apart, joined))
      ],
)

pub joins-requires-clause-run : goal.joins-requires-clause-run
joins-requires-clause-run g c =
    let filled = not_crossed _ (untrue _ c.if-is_empty-2.false c.is_empty-in-loop-run.ensures.crossed) in
    (filled, within_is_in_range g.B.Width.whole c.run-item.result filled c.in_whole-in-loop-run.ensures)
