use Rattle.ivl_buffers.proofs.InOrder.{first_at, members_at}
use Rattle.ivl_buffers.proofs.sorted_lookup.first_from.Goals as goal

pub returns-clause-members : goal.returns-clause-members
returns-clause-members g c = members_at g.R.Pair.pair c.args.runs.now c.search-place.result.0 c.pair_at.result c.pair_at.ensures

pub returns-clause-in_order : goal.returns-clause-in_order
returns-clause-in_order g c = λ o.
    first_at g.R.Pair.pair c.args.runs.now c.search-place.result.0 (g.R.Bound.Width.value c.args.v) c.pair_at.result c.pair_at.ensures (c.search-place.ensures.below o) c.search-place.ensures.from o
