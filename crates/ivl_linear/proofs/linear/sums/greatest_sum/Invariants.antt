use Rattle.std.proofs.Common.{drop, ◌≤ℤ◌}
use Rattle.ivl_laws.specs.Families.{set_at}
use Rattle.ivl_linear.proofs.Least.{SumsUpTo}
use Rattle.ivl_linear.proofs.linear.sums.greatest_sum.Given as goal

abbrev pub invariant-loop-term : goal.invariant-loop-term
invariant-loop-term g l = SumsUpTo (λ m x. x ≤ℤ m) l.terms (drop l.term-index l.terms) (set_at l.domains) l.sum
