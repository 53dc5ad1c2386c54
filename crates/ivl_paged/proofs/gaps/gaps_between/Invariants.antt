use Rattle.ivl_paged.specs.Gaps.{AreGaps}
use Rattle.ivl_paged.specs.Pages.{flattened}
use Rattle.ivl_paged.proofs.gaps.gaps_between.Given as goal

-- the gaps of the pages so far
abbrev pub invariant-loop-i : goal.invariant-loop-i
invariant-loop-i g l = AreGaps g.B.Width.whole l.pages l.i (flattened l.gaps)
