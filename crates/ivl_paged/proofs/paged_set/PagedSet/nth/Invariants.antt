use Rattle.std.proofs.Common.{◌≡◌, ◌+◌, ℕ, take}
use Rattle.ivl_laws.specs.Counts.{IsCountOf}
use Rattle.ivl_laws.specs.Runs.{Covers}
use Rattle.ivl_paged.specs.Pages.{flattened}
use Rattle.ivl_paged.proofs.paged_set.PagedSet.nth.Given as goal

-- the members of the pages so far, and those that are left to pass
abbrev pub invariant-loop-k : goal.invariant-loop-k
invariant-loop-k g l = (m : ℕ) × (m + g.B.Output.SizeNumber.size l.left ≡ g.B.Output.SizeNumber.size l.fn.i) × IsCountOf m (Covers (flattened (take l.k l.pages)))
