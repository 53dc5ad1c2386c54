use Rattle.std.proofs.Common.{◌∙◌, refl, subst}
use Rattle.std.proofs.lemmas.List.{take_all}
use Rattle.ivl_store_lines.specs.Required.{AreRequired}
use Rattle.ivl_store_lines.proofs.Relating.{required_more}
use Rattle.ivl_store_lines.proofs.Settling.{unset_after, unset_none, unset_then}
use Rattle.ivl_store_lines.proofs.atomic.require_each.Goals as goal

pub loop-rule-init : goal.loop-rule-init
loop-rule-init c = record { domains = refl; marked = refl; were_settled = refl; required = refl; unset = unset_none c.args.network.now.settled }

pub loop-rule-preserved : goal.loop-rule-preserved
loop-rule-preserved c =
    let v = c.loop-rule.invariant in
    record {
      domains = c.require.ensures.domains ∙ v.domains;
      marked = c.require.ensures.marked ∙ v.marked;
      were_settled = c.require.ensures.were_settled ∙ v.were_settled;
      required = required_more c.args.rules.now c.loop-rule.rule-index _ c.args.network.now.rules c.loop-rule.network.rules c.require.new.self.rules
          c.loop-rule-test.true v.required c.in-Ok.ensures.required;
      unset = unset_then c.args.network.now.settled c.loop-rule.network.settled c.require.new.self.settled v.unset
          (unset_after _ c.loop-rule.network c.require.new.self c.in-Ok.ensures.required c.require.ensures.known c.in-Ok.ensures.added);
    }

pub returns-clause-required : goal.returns-clause-required
returns-clause-required c =
    subst (λ rules. AreRequired rules c.args.network.now.rules c.loop-rule.network.rules) (take_all c.loop-rule.rule-index c.args.rules.now c.loop-rule-test.false) c.loop-rule.invariant.required
