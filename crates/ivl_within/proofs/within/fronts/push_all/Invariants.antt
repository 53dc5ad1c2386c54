use Rattle.std.proofs.Common.{take}
use Rattle.ivl_laws.specs.Sets.{Intersection, SameMembers, Union}
use Rattle.ivl_laws.specs.Runs.{Covers}
use Rattle.ivl_within.specs.Within.{SumsBy}
use Rattle.ivl_within.proofs.within.fronts.push_all.Given as goal

abbrev pub invariant-loop-run : goal.invariant-loop-run
invariant-loop-run g l = SameMembers (Covers l.entries.items) (Union (Covers l.fn.entries.items) (Intersection (Covers (take l.run-index l.runs)) (SumsBy l.op (Covers l.a) (Covers l.b))))
