use Rattle.std.proofs.Common.{◌≡◌, ◌-◌, map, arith}
use Rattle.std.specs.Int.{from_bool}
use Rattle.ivl_walks.proofs.Places.{count_over, lays_over}
use Rattle.ivl_merges.proofs.sink.PlacesSink.push_over.Goals as goal

pub returns-clause-list : goal.returns-clause-list
returns-clause-list g c = λ start L (m, k, r).
    let p = g.R.Pair.pair c.args.run in
    let n = c.args.self.now.count in
    let at : n - c.from.result ≡ n - from_bool c.args.is_over = omega (arith, c.from.ensures) in
    (m, count_over c.args.is_over L n (n - c.from.result) p k at, lays_over L (map g.R.Pair.pair start.out.now) _ _ (n - c.from.result) p r c.args.is_over n c.put.ensures k at)
