use Rattle.std.proofs.Common.{◌≡◌, ◌*◌, take}
use Rattle.intervallum.proofs.interval_set.run_lists.are_the_same.Given as goal

abbrev pub invariant-loop-i : goal.invariant-loop-i
invariant-loop-i g l = take (l.i * 4) l.a ≡ take (l.i * 4) l.b
