use Rattle.ivl_laws.specs.Families.{set_at}
use Rattle.ivl_store.proofs.Totals.{TakenSoFar}
use Rattle.ivl_store.proofs.Rounds.{RoundSoFar}
use Rattle.ivl_store.proofs.Steps.{StepsSoFar}
use Rattle.ivl_store.specs.Settled.{AreSettled}
use Rattle.ivl_store.proofs.store.Store.round.Given as goal

abbrev pub invariant-loop-i : goal.invariant-loop-i
invariant-loop-i g l = RoundSoFar l.constraints l.fn.self l.self l.lost l.i × TakenSoFar g.B.Width.whole l.fn.self l.self l.lost × StepsSoFar l.constraints (set_at l.fn.self) (set_at l.self) l.lost l.i × AreSettled l.constraints l.settled.items (set_at l.self)
