use Rattle.std.proofs.Common.{◌↔◌, ℕ, ◌<◌, IsTrue}
use Rattle.ivl_images.proofs.EqualRuns.{SameAt}
use Rattle.intervallum.proofs.interval_set.run_lists.all_are_the_same.Given as goal

abbrev pub invariant-loop-i : goal.invariant-loop-i
invariant-loop-i g l = IsTrue l.are_same ↔ ((k : ℕ) → k < l.i → SameAt l.a l.others k)
