use Rattle.std.proofs.Common.{◌≡◌, ◌≤◌, ◌+◌, ◌⊎◌, length, take}
use Rattle.std.specs.Prelude.{◌↔◌, Contains}
use Rattle.ivl_rules.specs.declared.rules.Rule.{Rule}
use Rattle.ivl_search.proofs.search.setup.require_all.Given as goal

abbrev pub invariant-loop-rule : goal.invariant-loop-rule
invariant-loop-rule g l = record {
  domains : l.network.domains ≡ l.fn.network.domains;
  marked : l.network.marked ≡ l.fn.network.marked;
  no_more : length l.network.rules ≤ length l.fn.network.rules + l.rule-index;
  required : (c : Rule) → Contains l.network.rules c ↔ (Contains l.fn.network.rules c ⊎ Contains (take l.rule-index l.rules) c);
}
