use Rattle.std.proofs.Common.{◌≡◌, ◌≤◌, ◌++◌, length, take, drop}
use Rattle.ivl_paged.specs.Longests.{cut}
use Rattle.ivl_paged.proofs.longests.take_places.Given as goal

-- what is left to take out of the groups from here on
abbrev pub invariant-loop-group : goal.invariant-loop-group
invariant-loop-group l = (l.low ≤ l.high) × (length l.counts.items ≡ length l.fn.counts.items) × (take l.group l.counts.items ++ cut l.low l.high (drop l.group l.counts.items) ≡ cut l.fn.start l.fn.end l.fn.counts.items)
