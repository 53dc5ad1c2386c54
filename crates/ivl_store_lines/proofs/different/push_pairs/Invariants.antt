use Rattle.std.proofs.Common.{◌≡◌, ◌++◌, map, take}
use Rattle.std.specs.Prelude.{pos}
use Rattle.ivl_rules.specs.declared.rules.Rule.TheVariants.{Differs}
use Rattle.ivl_store_lines.proofs.different.push_pairs.Given as goal

abbrev pub invariant-loop-other : goal.invariant-loop-other
invariant-loop-other l = l.rules.items ≡ l.fn.rules.items ++ map (λ y. Differs l.first y (pos 0)) (take l.other-index l.others)
