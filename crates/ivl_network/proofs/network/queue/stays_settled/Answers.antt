use Rattle.std.proofs.Common.{inl, inr, subst, List}
use Rattle.std.specs.Prelude.{ℤ}
use Rattle.ivl_laws.specs.Families.{set_at}
use Rattle.ivl_rules.specs.Rules.{SupportsAll}
use Rattle.ivl_rules.proofs.Narrowings.{narrowing_keeps}
use Rattle.ivl_network.proofs.network.queue.stays_settled.Goals as goal

pub returns-then-is_single_beside : goal.returns-then-is_single_beside
returns-then-is_single_beside g c = λ _. inr (c.if-keeps_one.true, c.is_single_beside.ensures c.if-is_single_beside.true)

pub returns : goal.returns
returns g c = λ t.
    let rule = c.args.rule.now in
    inl (narrowing_keeps rule _ _ (subst (λ (sets : List (List (ℤ × ℤ))). SupportsAll rule (set_at sets)) c.domains.ensures.same (c.takes_nothing.ensures t)) (λ i v h. h))
