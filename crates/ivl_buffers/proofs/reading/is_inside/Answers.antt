use Rattle.ivl_laws.proofs.Adding.{untrue}
use Rattle.ivl_buffers.proofs.Pairs.{inside_open}
use Rattle.ivl_buffers.proofs.reading.is_inside.Goals as goal
use Rattle.ivl_laws.proofs.Intervals.{not_crossed}

pub returns-else-is_crossed : goal.returns-else-is_crossed
returns-else-is_crossed g c =
    inside_open _ (g.R.Pair.pair c.args.run) _ _ _ c.lower.ensures c.upper.ensures
    (not_crossed _ (untrue _ c.if-is_crossed.false c.is_crossed.ensures)) c.in_range.ensures
