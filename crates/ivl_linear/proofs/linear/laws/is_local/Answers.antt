use Rattle.ivl_linear.proofs.Satisfying.{SatisfiesLinear-same}
use Rattle.ivl_linear.proofs.linear.laws.is_local.Goals as goal

pub returns : goal.returns
returns c = SatisfiesLinear-same
