use Rattle.std.proofs.Common.{◌≡◌, take}
use Rattle.ivl_laws.specs.Bounds.{width_of}
use Rattle.ivl_laws.specs.Runs.{Covers}
use Rattle.ivl_paged.specs.Pages.{IsLongestPart}
use Rattle.ivl_paged.proofs.page.longest_of.Given as goal

-- one of the longest of the runs so far, and its size
abbrev pub invariant-loop-run : goal.invariant-loop-run
invariant-loop-run g l = IsLongestPart l.longest (Covers (take l.run-index l.runs)) × (g.B.Output.SizeNumber.size l.most ≡ width_of l.longest)
