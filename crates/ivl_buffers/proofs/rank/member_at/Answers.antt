use Rattle.ivl_buffers.proofs.SameRanks.{same_nth}
use Rattle.ivl_buffers.proofs.rank.member_at.Goals as goal

pub returns : goal.returns
returns g c = same_nth _ _ _ g.R.Bound.Width.value c.nth.result c.in_ok-set.ensures.members c.nth.ensures
