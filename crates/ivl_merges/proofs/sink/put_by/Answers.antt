use Rattle.ivl_walks.proofs.Places.{put_by_test}
use Rattle.ivl_merges.proofs.sink.put_by.Goals as goal

pub returns-then-place-out : goal.returns-then-place-out
returns-then-place-out g c = rw c.select_unpredictable.ensures (put_by_test g.R.Pair.pair c.args.condition c.args.out.now c.args.place c.args.run c.index-out-place.result c.index-out-place.is)
