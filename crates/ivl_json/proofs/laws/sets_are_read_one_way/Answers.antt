use Rattle.ivl_json.specs.OneWay.{one_set, set_not_refused, set_reads-in_range}
use Rattle.ivl_json.proofs.laws.sets_are_read_one_way.Goals as goal

pub returns-clause-one : goal.returns-clause-one
returns-clause-one g c = one_set g.S.NumberSet.members g.T.NumberSet.members

pub returns-clause-not_refused : goal.returns-clause-not_refused
returns-clause-not_refused g c = set_not_refused g.S.NumberSet.members

pub returns-clause-in_range : goal.returns-clause-in_range
returns-clause-in_range g c = set_reads-in_range g.S.NumberSet.members
