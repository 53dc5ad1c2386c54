use Rattle.std.proofs.Common.{◌≡◌, take}
use Rattle.ivl_store_lines.specs.Required.{AreRequired}
use Rattle.ivl_store_lines.specs.Solving.{AddsUnset}
use Rattle.ivl_store_lines.proofs.atomic.require_each.Given as goal

abbrev pub invariant-loop-rule : goal.invariant-loop-rule
invariant-loop-rule l = record {
  domains : l.network.domains ≡ l.fn.network.domains;
  marked : l.network.marked ≡ l.fn.network.marked;
  were_settled : l.network.were_settled ≡ l.fn.network.were_settled;
  required : AreRequired (take l.rule-index l.rules) l.fn.network.rules l.network.rules;
  unset : AddsUnset l.fn.network.settled l.network.settled;
}
