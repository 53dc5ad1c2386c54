use Rattle.std.proofs.Common.{◌≡◌, ◌++◌}
use Rattle.ivl_paged.proofs.paged_set.within.listed.Given as goal

-- the runs so far stand in the list
abbrev pub invariant-runs : goal.invariant-runs
invariant-runs g l = l.list.items ++ l.left ≡ l.fn.left
