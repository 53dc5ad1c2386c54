use Rattle.ivl_places.proofs.Lopsided.{with_part}
use Rattle.intervallum.proofs.interval_set.lopsided.push_shared.Goals as goal

pub push_cut-requires-clause-apart : goal.push_cut-requires-clause-apart
push_cut-requires-clause-apart g c = c.requires.apart

pub returns-clause-members : goal.returns-clause-members
returns-clause-members g c = with_part c.args.set.now c.push_cut.new.self _ _ c.shared_runs-start.ensures.members c.in_ok-push_cut.ensures.members
