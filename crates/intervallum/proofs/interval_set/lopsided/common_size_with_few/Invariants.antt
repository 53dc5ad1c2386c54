use Rattle.std.proofs.Common.{◌≡◌, ℕ, ◌+◌, ◌*◌, ◌^◌, ◌<◌, ◌≤◌, length}
use Rattle.ivl_laws.specs.Runs.{IsRunListIn}
use Rattle.ivl_places.proofs.Lopsided.{CountedSoFar}
use Rattle.intervallum.proofs.interval_set.lopsided.common_size_with_few.Given as goal

-- what the runs so far have in common with the many is counted
abbrev pub invariant-loop-run : goal.invariant-loop-run
invariant-loop-run g l =
    (l.probes.runs ≡ l.fn.many) × (l.run-items ≡ l.fn.few) × IsRunListIn g.B.Width.whole l.run-items
    × CountedSoFar l.run-items l.fn.many (g.B.Output.SizeNumber.size l.size) l.run-index l.from
    × ((digits : ℕ) → length l.fn.many + 1 < 2 ^ digits → l.probes.looks ≤ l.fn.probes.looks + l.run-index * (4 * digits))
