use Rattle.std.proofs.Common.{◌≡◌, map, take}
use Rattle.ivl_rules.specs.declared.rules.Rule.TheVariants.{Sum}
use Rattle.ivl_search.proofs.search.sums.rules_of.Given as goal

abbrev pub invariant-loop-constraint : goal.invariant-loop-constraint
invariant-loop-constraint l = l.rules.items ≡ map Sum (take l.constraint-index l.constraints)
