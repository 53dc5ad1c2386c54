use Rattle.std.proofs.Common.{◌≡◌, ◌<◌, ◌≤◌, ℕ, get_or, length}
use Rattle.ivl_network.proofs.network.queue.remove.Given as goal

abbrev pub invariant-loop-place : goal.invariant-loop-place
invariant-loop-place l = (l.list ≡ l.fn.list) × (l.place ≤ length l.fn.list.items) × ((j : ℕ) → l.place ≤ j → j < length l.fn.list.items → get_or l.fn.list.items j 0 ≡ l.k → ⊥)

abbrev pub decreases-loop-place : goal.decreases-loop-place
decreases-loop-place l = l.place
