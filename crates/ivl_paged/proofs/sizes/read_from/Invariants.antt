use Rattle.std.proofs.Common.{◌≡◌, ℕ, ◌<◌, length}
use Rattle.ivl_paged.proofs.Totals.{Adds}
use Rattle.ivl_paged.proofs.sizes.read_from.Given as goal

-- the numbers so far are those of the groups
abbrev pub invariant-loop-group : goal.invariant-loop-group
invariant-loop-group g l = (length l.sizes.items ≡ length l.fn.sizes.items) × ((k : ℕ) → k < l.group → Adds l.sizes.items l.pages k)
