use Rattle.std.proofs.Common.{◌≡◌, drop}
use Rattle.ivl_search.specs.Points.{first_unknown_of_rules}
use Rattle.ivl_search.proofs.search.setup.first_unknown.Given as goal

abbrev pub invariant-loop-rule : goal.invariant-loop-rule
invariant-loop-rule l = first_unknown_of_rules l.count l.rules ≡ first_unknown_of_rules l.count (drop l.rule-index l.rules)
