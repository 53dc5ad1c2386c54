use Rattle.std.proofs.Common.{map, take}
use Rattle.ivl_laws.specs.Sets.{SameMembers, Union}
use Rattle.ivl_laws.specs.Runs.{Covers}
use Rattle.ivl_within.specs.Within.{Clipped, pair_by}
use Rattle.ivl_within.proofs.within.rows.push_row.Given as goal

abbrev pub invariant-loop-other : goal.invariant-loop-other
invariant-loop-other g l = SameMembers (Covers l.entries.items) (Union (Covers l.fn.entries.items) (Clipped l.window (Covers (map (pair_by l.op l.run) (take l.other-index l.met)))))
