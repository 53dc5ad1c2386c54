use Rattle.std.proofs.Common.{◌≡◌, length, All, ◌+◌, ◌≤◌}
use Rattle.ivl_store.specs.Measure.{total}
use Rattle.ivl_laws.specs.Families.{set_at}
use Rattle.ivl_store.specs.Narrowing.{Keeps, AllPresent}
use Rattle.ivl_store.proofs.Steps.{RoundsSoFar}
use Rattle.ivl_store.specs.Settled.{AreSettled}
use Rattle.ivl_store.proofs.store.Store.propagate.Given as goal

abbrev pub invariant-loop : goal.invariant-loop
invariant-loop g l = All (AllPresent (length l.self)) l.constraints × Keeps l.constraints l.fn.self l.self × (length l.self ≡ length l.fn.self) × (l.counter + total g.B.Width.whole l.self ≤ total g.B.Width.whole l.fn.self) × RoundsSoFar l.constraints l.counter (set_at l.fn.self) (set_at l.self) × AreSettled l.constraints l.settled.items (set_at l.self)
