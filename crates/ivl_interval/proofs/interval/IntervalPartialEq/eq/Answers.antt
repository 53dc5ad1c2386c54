use Rattle.ivl_interval.proofs.Pairs.{same_interval_members}
use Rattle.ivl_interval.proofs.interval.IntervalPartialEq.eq.Goals as goal

pub returns-clause-members : goal.returns-clause-members
returns-clause-members g c = same_interval_members _ _ _ c.has_same_members.ensures
