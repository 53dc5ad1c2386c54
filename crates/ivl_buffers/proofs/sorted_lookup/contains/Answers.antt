use Rattle.ivl_buffers.proofs.InOrder.{has_first, has_member}
use Rattle.ivl_buffers.proofs.sorted_lookup.contains.Goals as goal

pub returns-clause-member : goal.returns-clause-member
returns-clause-member g c = has_member g.R.Pair.pair c.args.runs.now c.search-is_in.result.0 (g.R.Bound.Width.value c.args.v) c.search-is_in.result.1 c.search-is_in.ensures.has

pub returns-clause-in_order : goal.returns-clause-in_order
returns-clause-in_order g c = λ o. has_first g.R.Pair.pair c.args.runs.now c.search-is_in.result.0 (g.R.Bound.Width.value c.args.v) c.search-is_in.result.1 c.search-is_in.ensures.has (c.search-is_in.ensures.below o) c.search-is_in.ensures.from o
