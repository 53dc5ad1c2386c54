use Rattle.std.proofs.Common.{ℕ, ◌<◌}
use Rattle.ivl_paged.specs.Longests.{HasLong}
use Rattle.ivl_paged.proofs.page_list.first_with.Given as goal

-- no page so far has such a run
abbrev pub invariant-loop-i : goal.invariant-loop-i
invariant-loop-i g l = (k : ℕ) → k < l.i → ¬ (HasLong (g.B.Output.SizeNumber.size l.count) l.pages k)
