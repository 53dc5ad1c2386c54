use Rattle.std.proofs.Common.{◌<◌, ◌≤◌, ◌<ℤ◌}
use Rattle.ivl_within.specs.Fronts.{nth_by}
use Rattle.ivl_within.specs.Within.{pair_by}
use Rattle.ivl_within.proofs.within.fronts.begun.Given as goal

abbrev pub invariant-places : goal.invariant-places
invariant-places g l = record {
  at_most : l.left ≤ l.count;
  not_begun : l.left < l.count → g.B.Width.value l.from <ℤ (pair_by l.op l.run (nth_by l.op l.b l.left)).0;
}

abbrev pub decreases-places : goal.decreases-places
decreases-places g l = l.left
