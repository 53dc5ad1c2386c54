use Rattle.std.proofs.Common.{◌≡◌, take}
use Rattle.ivl_laws.proofs.Widths.{total_width}
use Rattle.intervallum.proofs.interval_set.run_lists.size_of_runs.Given as goal

abbrev pub invariant-loop-run : goal.invariant-loop-run
invariant-loop-run g l = g.B.Output.SizeNumber.size l.size ≡ total_width (take l.run-index l.runs)
