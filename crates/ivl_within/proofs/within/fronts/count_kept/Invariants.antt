use Rattle.std.proofs.Common.{◌-◌, ◌≤◌, length, take}
use Rattle.ivl_laws.specs.Sets.{IsSubset}
use Rattle.ivl_laws.specs.Runs.{Covers}
use Rattle.ivl_within.specs.Within.{SumsBy}
use Rattle.ivl_within.proofs.within.fronts.count_kept.Given as goal

abbrev pub invariant-runs : goal.invariant-runs
invariant-runs g l = record {
  at_most : l.count ≤ length l.runs;
  kept : IsSubset (Covers (take l.count l.runs)) (SumsBy l.op (Covers l.a) (Covers l.b));
}

abbrev pub decreases-runs : goal.decreases-runs
decreases-runs g l = length l.runs - l.count
