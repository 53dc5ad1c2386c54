use Rattle.std.proofs.Common.{◌≡◌, ℕ, length, All}
use Rattle.ivl_laws.specs.Families.{set_at}
use Rattle.ivl_store.specs.Measure.{total}
use Rattle.ivl_store.specs.Narrowing.{Keeps, AllPresent}
use Rattle.ivl_store.specs.Settled.{AreSettled}
use Rattle.ivl_store.proofs.Steps.{RoundsSoFar}
use Rattle.ivl_store.proofs.store.Store.settle.Given as goal

abbrev pub invariant-loop : goal.invariant-loop
invariant-loop g l = All (AllPresent (length l.self)) l.constraints × Keeps l.constraints l.fn.self l.self × (length l.self ≡ length l.fn.self) × AreSettled l.constraints l.settled.items (set_at l.self) × ((k : ℕ) × RoundsSoFar l.constraints k (set_at l.fn.self) (set_at l.self))

abbrev pub decreases-loop : goal.decreases-loop
decreases-loop g l = total g.B.Width.whole l.self
