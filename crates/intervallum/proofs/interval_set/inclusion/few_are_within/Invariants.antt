use Rattle.std.proofs.Common.{◌≡◌}
use Rattle.ivl_laws.specs.Runs.{IsMaximal}
use Rattle.ivl_places.proofs.Finding.{FoundFor}
use Rattle.intervallum.proofs.interval_set.inclusion.few_are_within.Given as goal

-- the runs so far are held, and the next one is looked for from a place below it
abbrev pub invariant-loop-run : goal.invariant-loop-run
invariant-loop-run g l = (l.runs.runs ≡ l.fn.many) × (l.run-items ≡ l.fn.few) × IsMaximal l.run-items × FoundFor l.run-items l.fn.many l.run-index l.from
