use Rattle.ivl_json.specs.OneWay.{one_interval, interval_not_refused, interval_reads-in_range}
use Rattle.ivl_json.proofs.laws.intervals_are_read_one_way.Goals as goal

pub returns-clause-one : goal.returns-clause-one
returns-clause-one g c = one_interval g.S.NumberSet.members g.T.NumberSet.members

pub returns-clause-not_refused : goal.returns-clause-not_refused
returns-clause-not_refused g c = interval_not_refused g.S.NumberSet.members

pub returns-clause-in_range : goal.returns-clause-in_range
returns-clause-in_range g c = interval_reads-in_range g.S.NumberSet.members
