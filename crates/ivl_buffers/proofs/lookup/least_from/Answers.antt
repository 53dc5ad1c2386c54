use Rattle.std.proofs.Common.{map, take}
use Rattle.std.specs.Prelude.{option_map}
use Rattle.ivl_buffers.proofs.LeastMember.{next_all, next_more}
use Rattle.ivl_buffers.proofs.lookup.least_from.Goals as goal

pub loop-run-preserved : goal.loop-run-preserved
loop-run-preserved g c =
    let v = g.R.Bound.Width.value c.args.v in
    let L = c.args.runs.now in
    let k = c.loop-run.run-index in
    let d = c.run-item.result in
    next_more g.R.Pair.pair L k d v (option_map g.R.Bound.Width.value c.lesser-least.result) c.loop-run-test.true c.run-item.is
    (c.lesser-least.ensures v (map g.R.Pair.pair (take k L)) (g.R.Pair.pair d) c.loop-run.invariant c.least_in.ensures)

pub returns : goal.returns
returns g c =
    next_all g.R.Pair.pair c.args.runs.now c.loop-run.run-index (g.R.Bound.Width.value c.args.v) (option_map g.R.Bound.Width.value c.loop-run.least) c.loop-run-test.false c.loop-run.invariant
