use Rattle.std.proofs.Common.{◌-◌, ◌+◌, ◌≤◌, length, take}
use Rattle.ivl_laws.specs.Sets.{IsSubset}
use Rattle.ivl_laws.specs.Runs.{Covers}
use Rattle.ivl_within.specs.Within.{SumsBy}
use Rattle.ivl_within.proofs.within.moved.count_within.Given as goal

abbrev pub invariant-walk : goal.invariant-walk
invariant-walk g l = record {
  at_most : l.within ≤ length l.runs;
  within : IsSubset (Covers (take l.within l.runs)) (SumsBy l.op (Covers l.a) (Covers l.b));
}

abbrev pub decreases-walk : goal.decreases-walk
decreases-walk g l = (length l.runs - l.within) + (l.count - l.place)
