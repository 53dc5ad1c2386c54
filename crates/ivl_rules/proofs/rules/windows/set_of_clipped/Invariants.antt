use Rattle.std.specs.Prelude.{take}
use Rattle.ivl_laws.specs.Runs.{Covers}
use Rattle.ivl_laws.specs.Sets.{Intersection, IsBetween, SameMembers}
use Rattle.ivl_rules.proofs.rules.windows.set_of_clipped.Given as goal

-- what the runs so far have in the interval
abbrev pub invariant-loop-run : goal.invariant-loop-run
invariant-loop-run g l = SameMembers (Covers l.set) (Intersection (Covers (take l.run-index l.runs)) (IsBetween l.window))
