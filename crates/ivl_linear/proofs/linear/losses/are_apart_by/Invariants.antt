use Rattle.std.proofs.Common.{ℕ, ◌<◌}
use Rattle.ivl_laws.specs.Families.{set_at}
use Rattle.ivl_linear.specs.Linear.{term_at}
use Rattle.ivl_linear.specs.Rests.{IsApartBy}
use Rattle.ivl_linear.proofs.linear.losses.are_apart_by.Given as goal

abbrev pub invariant-loop-k : goal.invariant-loop-k
invariant-loop-k g l = (j : ℕ) → j < l.k → IsApartBy (term_at l.terms j).coefficient (set_at l.domains (term_at l.terms j).variable) l.spare
