use Rattle.ivl_laws.specs.Runs.{Covers}
use Rattle.intervallum.proofs.Equality.{larger_is_no_subset}
use Rattle.intervallum.proofs.interval_set.inclusion.IntervalSetSubset.is_subset.Goals as goal

pub returns-then-gt : goal.returns-then-gt
returns-then-gt g c =
    larger_is_no_subset g.met.B.Output.SizeNumber.ordered _ _ _ (Covers c.args.self.now) (Covers c.args.other.now) c.gt.ensures c.if-gt.true c.size.ensures c.size-2.ensures
