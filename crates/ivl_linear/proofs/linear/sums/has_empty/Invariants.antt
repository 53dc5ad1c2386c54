use Rattle.std.proofs.Common.{drop}
use Rattle.ivl_laws.specs.Families.{set_at}
use Rattle.ivl_linear.specs.Rests.{AllFilled}
use Rattle.ivl_linear.proofs.linear.sums.has_empty.Given as goal

abbrev pub invariant-loop-term : goal.invariant-loop-term
invariant-loop-term g l = AllFilled (drop l.term-index l.terms) (set_at l.domains) → AllFilled l.terms (set_at l.domains)
