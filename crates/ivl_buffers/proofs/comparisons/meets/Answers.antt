use Rattle.ivl_buffers.proofs.Counted.{meets_by_count}
use Rattle.ivl_buffers.proofs.comparisons.meets.Goals as goal

pub returns : goal.returns
returns g c = meets_by_count _ _ _ _ c.intersection.result c.intersection.ensures.runs
