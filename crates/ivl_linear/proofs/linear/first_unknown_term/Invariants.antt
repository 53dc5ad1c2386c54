use Rattle.std.proofs.Common.{◌≡◌, ℕ, ◌<◌, drop, get_or}
use Rattle.ivl_linear.specs.declared.linear.Term.{Term}
use Rattle.ivl_linear.specs.Linear.{unknown_term}
use Rattle.ivl_linear.proofs.linear.first_unknown_term.Given as goal

abbrev pub invariant-loop-term : goal.invariant-loop-term
invariant-loop-term l = record {
  first : unknown_term l.count l.terms ≡ unknown_term l.count (drop l.term-index l.terms);
  below : (j : ℕ) (d : Term) → j < l.term-index → (get_or l.terms j d).variable < l.count;
}
