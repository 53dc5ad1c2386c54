use Rattle.ivl_laws.specs.Sets.{IsBetween}
use Rattle.ivl_laws.proofs.Adding.{untrue}
use Rattle.ivl_buffers.proofs.Pairs.{inside_next, some_outside}
use Rattle.ivl_buffers.proofs.reading.are_inside.Goals as goal

pub returns-then-not-is_inside : goal.returns-then-not-is_inside
returns-then-not-is_inside g c =
    some_outside g.R.Pair.pair c.args.runs.now c.loop-run.run-index c.run-item.result (IsBetween g.R.Bound.Width.whole) c.loop-run-test.true c.run-item.is
    (untrue _ c.if-not-is_inside.true c.is_inside.ensures)

pub loop-run-preserved : goal.loop-run-preserved
loop-run-preserved g c =
    inside_next g.R.Pair.pair c.args.runs.now c.loop-run.run-index c.run-item.result (IsBetween g.R.Bound.Width.whole) c.loop-run-test.true c.run-item.is c.loop-run.invariant
    (c.is_inside.ensures.0 c.if-not-is_inside.false)
