use Rattle.std.proofs.Common.{take}
use Rattle.ivl_laws.specs.Runs.{Covers, IsRunsOf}
use Rattle.ivl_map.specs.Entries.{intervals_of}
use Rattle.ivl_map.proofs.interval_map.numbers.numbers_of.Given as goal

abbrev pub invariant-loop-entry : goal.invariant-loop-entry
invariant-loop-entry g l = IsRunsOf l.numbers (Covers (intervals_of (take l.entry-index l.entries)))
