use Rattle.std.proofs.Common.{◌≡◌, drop}
use Rattle.ivl_store.specs.Narrowing.{first_unknown_of}
use Rattle.ivl_search.proofs.search.sums.first_unknown.Given as goal

abbrev pub invariant-loop-constraint : goal.invariant-loop-constraint
invariant-loop-constraint l = first_unknown_of l.count l.constraints ≡ first_unknown_of l.count (drop l.constraint-index l.constraints)
