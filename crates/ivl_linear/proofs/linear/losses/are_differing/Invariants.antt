use Rattle.std.proofs.Common.{ℕ, ◌<◌, ℤ}
use Rattle.ivl_laws.specs.Families.{set_at}
use Rattle.ivl_linear.specs.declared.linear.Relation.TheVariants.{Differs}
use Rattle.ivl_linear.specs.Linear.{HasLinearPointAt, term_at}
use Rattle.ivl_linear.proofs.linear.losses.are_differing.Given as goal

abbrev pub invariant-loop-k : goal.invariant-loop-k
invariant-loop-k g l = (j : ℕ) → j < l.k → (v : ℤ) → set_at l.domains (term_at l.terms j).variable v → HasLinearPointAt l.terms (Differs l.fn.number) (set_at l.domains) (term_at l.terms j).variable v
