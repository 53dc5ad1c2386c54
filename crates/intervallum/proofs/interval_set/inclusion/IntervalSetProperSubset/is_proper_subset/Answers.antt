use Rattle.ivl_laws.specs.Runs.{Covers}
use Rattle.intervallum.proofs.Equality.{proper_by_size, not_proper_by_size}
use Rattle.intervallum.proofs.interval_set.inclusion.IntervalSetProperSubset.is_proper_subset.Goals as goal

pub returns-then-ne : goal.returns-then-ne
returns-then-ne g c =
    proper_by_size g.met.B.Output.SizeNumber.ordered _ _ c.ne.result (Covers c.args.self.now) (Covers c.args.other.now) c.ne.ensures c.size.ensures c.size-2.ensures
    c.is_subset.result c.if-ne.true c.is_subset.ensures

pub returns-else-ne : goal.returns-else-ne
returns-else-ne g c =
    not_proper_by_size g.met.B.Output.SizeNumber.ordered _ _ c.ne.result (Covers c.args.self.now) (Covers c.args.other.now) c.ne.ensures c.size.ensures c.size-2.ensures c.if-ne.false
