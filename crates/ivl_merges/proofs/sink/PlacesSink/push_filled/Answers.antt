use Rattle.std.proofs.Common.{◌≡◌, ◌+◌, map, arith}
use Rattle.std.proofs.lemmas.Int.{ints}
use Rattle.ivl_laws.proofs.Orders.{le_number}
use Rattle.ivl_walks.proofs.Places.{adds_or_repeats, written_stands}
use Rattle.ivl_merges.proofs.sink.PlacesSink.push_filled.Goals as goal

pub returns-clause-repeats : goal.returns-clause-repeats
returns-clause-repeats g c = written_stands (map g.R.Pair.pair c.args.self.now.out.now) _ (g.R.Pair.pair c.select_unpredictable-self.result) _ c.saturating_sub-place.result c.put.ensures c.saturating_sub-place.ensures

pub returns-clause-list : goal.returns-clause-list
returns-clause-list g c = λ start.
    let le = le_number g.met.R.Bound.Width.ordered _ _ _ c.le-is_filled.ensures in
    let low = c.lower.ensures in
    let high = c.upper.ensures in
    adds_or_repeats g.R.Pair.pair (c.args.self.now.out.ghost_name ≡ start.out.ghost_name) (map g.R.Pair.pair start.out.now) (map g.R.Pair.pair c.args.self.now.out.now) (map g.R.Pair.pair c.put.new.out)
    c.args.self.now.last c.args.run c.select_unpredictable-self.result c.le-is_filled.result c.args.self.now.count (c.args.self.now.count + c.from.result) c.saturating_sub-place.result
    ((λ t. let u = le.0 t in omega (arith, ints, u, low, high)), (λ u. le.1 (omega (arith, ints, u, low, high)))) c.select_unpredictable-self.ensures (omega (arith, c.from.ensures)) c.saturating_sub-place.ensures
    c.put.ensures c.requires.repeats
