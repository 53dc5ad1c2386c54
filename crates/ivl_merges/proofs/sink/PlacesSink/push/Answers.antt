use Rattle.std.proofs.Common.{map}
use Rattle.ivl_walks.proofs.Laying.{length_more}
use Rattle.ivl_walks.proofs.Places.{lays_next}
use Rattle.ivl_merges.proofs.sink.PlacesSink.push.Goals as goal

pub returns-clause-list : goal.returns-clause-list
returns-clause-list g c = λ start L (m, k, r).
    let p = g.R.Pair.pair c.args.run in
    (m, length_more L p c.args.self.now.count k, lays_next L (map g.R.Pair.pair start.out.now) _ _ c.args.self.now.count p r c.put.ensures k)
