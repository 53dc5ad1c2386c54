use Rattle.std.proofs.Common.{◌∙◌}
use Rattle.ivl_laws.proofs.Orders.{max_number}
use Rattle.ivl_walks.proofs.Joins.{joins_by_width, joins_in_range}
use Rattle.ivl_merges.proofs.merges.joins.Goals as goal

pub returns : goal.returns
returns g c =
    joins_by_width _ _ _ (g.R.Pair.pair c.args.last).1 (g.R.Pair.pair c.args.run).0 _ (c.number.ensures.number ∙ c.width.ensures)
    (max_number g.met.R.Bound.Width.ordered _ _ _ c.max.ensures) c.upper-end.ensures c.lower-start.ensures

pub width-requires-clause-in_range : goal.width-requires-clause-in_range
width-requires-clause-in_range g c =
    joins_in_range g.R.Bound.Width.whole (g.R.Pair.pair c.args.last) (g.R.Pair.pair c.args.run) _ _ _ c.requires.last c.requires.run c.upper-end.ensures c.lower-start.ensures
    (max_number g.met.R.Bound.Width.ordered _ _ _ c.max.ensures)
