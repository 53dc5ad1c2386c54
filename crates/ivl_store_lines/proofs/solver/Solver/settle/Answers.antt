use Rattle.std.proofs.Common.{◌∙◌, sym}
use Rattle.ivl_store_lines.proofs.solver.Solver.settle.Goals as goal

pub invariant_of-self-2 : goal.invariant_of-self-2
invariant_of-self-2 c = c.self.invariant ∙ sym c.in_ok-progress.ensures.kept_count
