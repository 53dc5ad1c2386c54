use Rattle.std.proofs.Common.{◌++◌, take}
use Rattle.std.specs.Prelude.{flat_map, codes}
use Rattle.std.specs.Io.KnownBytes.{Appends}
use Rattle.ivl_lines.specs.Sets.{run_text}
use Rattle.ivl_calculator_lines.proofs.replies.write_runs.Given as goal

abbrev pub invariant-loop-run : goal.invariant-loop-run
invariant-loop-run g l =
    Appends (g.W.Write.contents l.fn.writer) (g.W.Write.contents l.writer)
    (codes "{" ++ flat_map run_text (take l.run-index l.runs))
