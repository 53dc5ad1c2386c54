use Rattle.std.proofs.lemmas.Result.{IfOk-weaker}
use Rattle.std.proofs.Common.{map}
use Rattle.ivl_laws.specs.Sets.{IsBetween}
use Rattle.ivl_laws.specs.Runs.{Covers}
use Rattle.ivl_laws.proofs.SetLaws.{IsRunsOf-same}
use Rattle.ivl_buffers.proofs.Pairs.{inside_at, read_all}
use Rattle.ivl_buffers.proofs.reading.set_of.Goals as goal

pub interval_of-requires : goal.interval_of-requires
interval_of-requires g c =
    inside_at g.R.Pair.pair c.args.runs.now c.loop-run.run-index c.run-item.result (IsBetween g.R.Bound.Width.whole) c.loop-run-test.true c.run-item.is c.requires

pub returns : goal.returns
returns g c =
    let same = read_all g.R.Pair.pair c.args.runs.now c.loop-run.list.items c.loop-run.run-index c.loop-run-test.false c.loop-run.invariant in
    IfOk-weaker c.coalesce.result _ _ (λ L h. IsRunsOf-same (Covers c.loop-run.list.items) (Covers (map g.R.Pair.pair c.args.runs.now)) L same h) c.coalesce.ensures
