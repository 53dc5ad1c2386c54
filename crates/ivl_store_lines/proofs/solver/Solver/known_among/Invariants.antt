use Rattle.std.proofs.Common.{◌≡◌, ◌++◌, length}
use denote.Text.{Utf8}
use denote.Shadow.{shadow}
use Rattle.ivl_lines.specs.Words.{words_between}
use Rattle.ivl_store_lines.specs.Solving.{variables_named}
use Rattle.ivl_store_lines.proofs.solver.Solver.known_among.Given as goal

abbrev pub invariant-loop-name : goal.invariant-loop-name
invariant-loop-name l = shadow (Utf8 l.rest) × (variables_named l.self.names (words_between l.names) ≡ l.variables.items ++ variables_named l.self.names (words_between l.rest))

abbrev pub decreases-loop-name : goal.decreases-loop-name
decreases-loop-name l = length l.rest
