use Rattle.std.proofs.lemmas.List.{map-set}
use Rattle.ivl_merges.proofs.sink.put.Goals as goal

pub returns-then-place-out : goal.returns-then-place-out
returns-then-place-out g c = map-set g.R.Pair.pair c.args.out.now c.args.place c.args.run
