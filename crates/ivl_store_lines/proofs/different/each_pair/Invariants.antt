use Rattle.std.proofs.Common.{◌≡◌, ◌++◌, length}
use Rattle.ivl_store_lines.specs.Required.{each_pair}
use Rattle.ivl_store_lines.proofs.different.each_pair.Given as goal

abbrev pub invariant-loop-rest : goal.invariant-loop-rest
invariant-loop-rest l = each_pair l.variables ≡ l.rules.items ++ each_pair l.rest

abbrev pub decreases-loop-rest : goal.decreases-loop-rest
decreases-loop-rest l = length l.rest
