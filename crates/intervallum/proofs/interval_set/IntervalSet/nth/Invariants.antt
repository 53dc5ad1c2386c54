use Rattle.std.proofs.Common.{◌≡◌, ◌+◌, ℕ, take}
use Rattle.ivl_laws.specs.Counts.{IsCountOf}
use Rattle.ivl_laws.specs.Runs.{Covers}
use Rattle.intervallum.proofs.interval_set.IntervalSet.nth.Given as goal

-- the members of the runs so far, and those that are left to pass
abbrev pub invariant-loop-run : goal.invariant-loop-run
invariant-loop-run g l = (m : ℕ) × (m + g.B.Output.SizeNumber.size l.left ≡ g.B.Output.SizeNumber.size l.fn.i) × IsCountOf m (Covers (take l.run-index l.runs))
