use Rattle.std.proofs.Common.{◌≡◌, length}
use Rattle.std.specs.Prelude.{find}
use Rattle.ivl_store_lines.specs.Solving.{is_crossed}
use Rattle.ivl_store_lines.proofs.solver.first_crossed.Given as goal

-- the pairs that were passed over do not cross
abbrev pub invariant-loop-rest : goal.invariant-loop-rest
invariant-loop-rest l = find is_crossed l.pairs ≡ find is_crossed l.rest

abbrev pub decreases-loop-rest : goal.decreases-loop-rest
decreases-loop-rest l = length l.rest
