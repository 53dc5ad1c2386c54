use Rattle.ivl_laws.proofs.Adding.{untrue}
use Rattle.ivl_places.proofs.Singles.{common_with_member, common_with_other}
use Rattle.intervallum.proofs.interval_set.value_operands.IntervalSetIntersection.intersection.Goals as goal

pub new-requires-clause-in_range : goal.new-requires-clause-in_range
new-requires-clause-in_range g c = c.in_whole.ensures.within _ (c.contains.ensures.0 c.if-contains.true)

pub returns-then-contains-clause-members : goal.returns-then-contains-clause-members
returns-then-contains-clause-members g c = common_with_member c.new.result c.args.self.now (g.B.Width.value c.args.other.now) (c.contains.ensures.0 c.if-contains.true) c.new.ensures

pub returns-else-contains-clause-members : goal.returns-else-contains-clause-members
returns-else-contains-clause-members g c = rw c.empty.ensures (common_with_other c.args.self.now (g.B.Width.value c.args.other.now) (untrue _ c.if-contains.false c.contains.ensures))
