use Rattle.std.proofs.Common.{◌≡◌, ℕ, ◌+◌, ◌*◌, ◌^◌, ◌<◌, ◌≤◌, length}
use Rattle.ivl_laws.specs.Runs.{IsMaximal}
use Rattle.ivl_places.proofs.Lopsided.{SharedSoFar}
use Rattle.intervallum.proofs.interval_set.lopsided.common_with_few.Given as goal

-- what is written is what the runs so far have in common with the many
abbrev pub invariant-loop-run : goal.invariant-loop-run
invariant-loop-run g l =
    (l.probes.runs ≡ l.fn.many) × (l.run-items ≡ l.fn.few) × IsMaximal l.run-items × SharedSoFar l.run-items l.fn.many l.set l.run-index l.from
    × ((digits : ℕ) → length l.fn.many + 1 < 2 ^ digits → l.probes.looks ≤ l.fn.probes.looks + l.run-index * (4 * digits))
