use Rattle.ivl_buffers.proofs.InOrder.{first_next, next_member}
use Rattle.ivl_buffers.proofs.sorted_lookup.least_from.Goals as goal

pub returns-clause-member : goal.returns-clause-member
returns-clause-member g c = next_member g.R.Bound.Width.value _ _ _ c.least_in.result c.least_in.ensures c.in_ok-run.ensures.members

pub returns-clause-in_order : goal.returns-clause-in_order
returns-clause-in_order g c = λ o. first_next _ _ (g.R.Pair.pair c.in_ok-run.run') _ (c.in_ok-run.ensures.in_order o) c.in_ok-run.ensures.members c.least_in.ensures
