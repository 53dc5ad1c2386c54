use Rattle.ivl_buffers.proofs.Counted.{within_by_count}
use Rattle.ivl_buffers.proofs.comparisons.is_within.Goals as goal

pub returns : goal.returns
returns g c = within_by_count _ _ _ _ c.difference.result c.difference.ensures.runs
