use Rattle.std.proofs.Common.{map}
use Rattle.ivl_walks.proofs.Places.{lays_by}
use Rattle.ivl_merges.proofs.sink.PlacesSink.put_if.Goals as goal

pub returns-clause-list : goal.returns-clause-list
returns-clause-list g c = λ start L h a b e.
    (h.0, lays_by L (map g.R.Pair.pair start.out.now) _ _ c.args.place (g.R.Pair.pair c.args.run) h.1 c.args.is_filled c.put_by.ensures a b)
