use Rattle.std.proofs.Common.{◌≡◌, ◌∙◌, ap, inl, inr, length, refl, subst, sym}
use Rattle.std.specs.Prelude.{Contains, map}
use Rattle.std.proofs.lemmas.Bool.{false≢true}
use Rattle.ivl_network.specs.Families.{ArePresent}
use Rattle.ivl_network.specs.Network.{RulesState}
use Rattle.ivl_network.specs.RuleHashes.{hash_of_rule}
use Rattle.ivl_network.proofs.network.Network.require.Goals as goal

pub push-requires-clause-present : goal.push-requires-clause-present
push-requires-clause-present g c =
    let e : length c.domains.result.now ≡ length c.args.self.now.domains = ap length (c.domains.ensures.same ∙ ap (λ (s : RulesState). s.domains) c.self.view_is) in
    subst (λ n. ArePresent n c.args.rule) e (c.first_unknown.ensures.present c.in_default.is)

pub returns-in_ok-push-clause-required : goal.returns-in_ok-push-clause-required
returns-in_ok-push-clause-required g c =
    inr (
      (λ h. false≢true (sym c.if-not-has.true ∙ c.has.ensures.1
          (subst (λ cs. Contains cs c.args.rule) (sym (c.deref.ensures.value ∙ ap (λ (s : RulesState). s.rules) c.self.view_is)) h))),
      ap (λ (s : RulesState). s.rules) c.in_ok-push.ensures.added,
    )

pub returns-else-not-has-clause-required : goal.returns-else-not-has-clause-required
returns-else-not-has-clause-required g c =
    inl (
      subst (λ cs. Contains cs c.args.rule) (c.deref.ensures.value ∙ ap (λ (s : RulesState). s.rules) c.self.view_is)
          (c.has.ensures.0 c.if-not-has.false),
      refl,
    )

pub returns-in_ok-push-clause-known : goal.returns-in_ok-push-clause-known
returns-in_ok-push-clause-known g c = λ h.
    absurd (false≢true (sym c.if-not-has.true ∙ c.has.ensures.1
    (subst (λ cs. Contains cs c.args.rule) (sym (c.deref.ensures.value ∙ ap (λ (s : RulesState). s.rules) c.self.view_is)) h)))

pub returns-else-not-has-clause-added : goal.returns-else-not-has-clause-added
returns-else-not-has-clause-added g c = λ new.
    absurd (new (subst (λ cs. Contains cs c.args.rule) (c.deref.ensures.value ∙ ap (λ (s : RulesState). s.rules) c.self.view_is) (c.has.ensures.0 c.if-not-has.false)))

pub has-requires-clause-lists : goal.has-requires-clause-lists
has-requires-clause-lists g c = c.self.invariant.2.known.0

pub has-requires-clause-hashes : goal.has-requires-clause-hashes
has-requires-clause-hashes g c = c.self.invariant.2.known.1 ∙ ap (map hash_of_rule) (sym c.deref.ensures.value)
