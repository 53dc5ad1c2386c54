use Rattle.std.proofs.Common.{◌≡◌, ◌<◌, ◌≤◌, ◌⊎◌, ℕ, [], length, true}
use Rattle.std.specs.Prelude.{Any}
use Rattle.ivl_laws.specs.Families.{set_at}
use Rattle.ivl_network.specs.Network.{AreNarrowedTo, IsEmptiedLast}
use Rattle.ivl_network.specs.Settled.{KeepsSettled}
use Rattle.ivl_network.proofs.network.Network.narrow_up_to.Given as goal

abbrev pub invariant-loop : goal.invariant-loop
invariant-loop g l = (l.self.rules ≡ l.fn.self.rules) × (length l.self.domains ≡ length l.fn.self.domains) × (l.self.marked ≡ l.fn.self.marked) × (l.counter ≤ l.budget)
    × AreNarrowedTo g.B.Width.whole l.fn.self l.counter l.self × (l.stops_at_empty ≡ true → Any (λ L. L ≡ []) l.fn.self.domains → l.self ≡ l.fn.self)
    × (l.stops_at_empty ≡ true → (l.self.domains ≡ l.fn.self.domains) ⊎ ((count : ℕ) × (count < l.budget) × IsEmptiedLast l.fn.self.rules count l.fn.self.domains l.self.domains))
    × (l.self.were_settled ≡ l.fn.self.were_settled) × KeepsSettled l.fn.self.rules (set_at l.fn.self.domains) (set_at l.self.domains) l.fn.self.settled l.self.settled
