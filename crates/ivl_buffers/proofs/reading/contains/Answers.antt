use Rattle.ivl_laws.proofs.Adding.{untrue}
use Rattle.ivl_buffers.proofs.Pairs.{none_has, none_more, some_has}
use Rattle.ivl_buffers.proofs.reading.contains.Goals as goal

pub returns-then-has : goal.returns-then-has
returns-then-has g c =
    some_has g.R.Pair.pair c.args.runs.now c.loop-run.run-index c.run-item.result (g.R.Bound.Width.value c.args.v) c.loop-run-test.true c.run-item.is (c.has.ensures.0 c.if-has.true)

pub loop-run-preserved : goal.loop-run-preserved
loop-run-preserved g c =
    none_more g.R.Pair.pair c.args.runs.now c.loop-run.run-index c.run-item.result (g.R.Bound.Width.value c.args.v) c.loop-run-test.true c.run-item.is c.loop-run.invariant
    (untrue _ c.if-has.false c.has.ensures)

pub returns : goal.returns
returns g c = none_has g.R.Pair.pair c.args.runs.now c.loop-run.run-index (g.R.Bound.Width.value c.args.v) c.loop-run-test.false c.loop-run.invariant
