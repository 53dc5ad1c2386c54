use Rattle.std.proofs.Common.{◌⊎◌}
use Rattle.std.specs.Prelude.{◌↔◌, Contains}
use Rattle.std.proofs.Common.{arith, ◌∙◌, subst}
use Rattle.std.proofs.lemmas.List.{take_all}
use Rattle.ivl_rules.specs.declared.rules.Rule.{Rule}
use Rattle.ivl_search.proofs.Requiring.{required_count, required_more}
use Rattle.ivl_search.proofs.search.setup.require_all.Goals as goal

pub loop-rule-preserved : goal.loop-rule-preserved
loop-rule-preserved g c =
    let v = c.loop-rule.invariant in
    let so_far = v.no_more in
    let one = required_count _ c.loop-rule.network.rules c.require.new.self.rules c.in-Ok.ensures.required in
    record {
      domains = c.require.ensures.domains ∙ v.domains;
      marked = c.require.ensures.marked ∙ v.marked;
      no_more = omega (arith, so_far, one);
      required = required_more c.args.network.now.rules c.loop-rule.network.rules c.require.new.self.rules c.args.rules.now c.loop-rule.rule-index _
          c.loop-rule-test.true c.in-Ok.ensures.required v.required;
    }

pub returns-clause-no_more : goal.returns-clause-no_more
returns-clause-no_more g c =
    let h = c.loop-rule.invariant.no_more in
    let end = c.loop-rule.auto.rule-index-end in
    omega (arith, h, end)

pub returns-clause-required : goal.returns-clause-required
returns-clause-required g c =
    subst (λ cs. (d : Rule) → Contains c.loop-rule.network.rules d ↔ (Contains c.args.network.now.rules d ⊎ Contains cs d))
    (take_all c.loop-rule.rule-index c.args.rules.now c.loop-rule-test.false) c.loop-rule.invariant.required
