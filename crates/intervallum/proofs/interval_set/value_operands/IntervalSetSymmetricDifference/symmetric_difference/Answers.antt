use Rattle.ivl_laws.proofs.Adding.{untrue}
use Rattle.ivl_places.proofs.Singles.{alone_with_member, alone_with_other}
use Rattle.intervallum.proofs.interval_set.value_operands.IntervalSetSymmetricDifference.symmetric_difference.Goals as goal

pub returns-then-contains-clause-members : goal.returns-then-contains-clause-members
returns-then-contains-clause-members g c = alone_with_member c.difference.result c.args.self.now (g.B.Width.value c.args.other.now) (c.contains.ensures.0 c.if-contains.true) c.difference.ensures.members

pub returns-else-contains-clause-members : goal.returns-else-contains-clause-members
returns-else-contains-clause-members g c = alone_with_other c.union.result c.args.self.now (g.B.Width.value c.args.other.now) (untrue _ c.if-contains.false c.contains.ensures) c.union.ensures.members
