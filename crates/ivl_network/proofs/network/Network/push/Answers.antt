use Rattle.std.proofs.Common.{◌≡◌, ◌∙◌, ap, false, length, subst, sym, Bool, List, ◌∷◌, ◌++◌, [], refl}
use Rattle.ivl_network.specs.Families.{ArePresent}
use Rattle.ivl_network.specs.Hashes.{AreHashLists, HasHashRoom}
use Rattle.ivl_network.specs.Network.{IsSoundRules, RulesState}
use Rattle.ivl_network.specs.Queue.{IsRuleIndex}
use Rattle.ivl_network.specs.declared.network.change.Change.TheVariants.{Require}
use Rattle.ivl_network.proofs.Logging.{logged, logged_marks, state_is}
use Rattle.ivl_network.proofs.Narrowings.{sound_pushed}
use Rattle.ivl_network.proofs.Reverting.{reverts_rule}
use Rattle.ivl_network.proofs.network.Network.push.Goals as goal

pub invariant_of-self-in_err-reserve_rule : goal.invariant_of-self-in_err-reserve_rule
invariant_of-self-in_err-reserve_rule g c =
    let i = c.self.inside in (
      c.self.invariant.0,
      rw c.reserve_changes.ensures.same c.self.invariant.1,
      c.reserve_rule.ensures.same (length i.store) i.rules.items c.self.invariant.2,
      c.self.invariant.3,
      rw c.reserve_changes.ensures.same c.self.invariant.4,
    )

pub invariant_of-self-in_err-reserve : goal.invariant_of-self-in_err-reserve
invariant_of-self-in_err-reserve g c =
    let i = c.self.inside in
    rw (c.reserve.ensures.items, c.reserve_changes.ensures.same) (
      c.self.invariant.0,
      c.self.invariant.1,
      c.reserve_rule.ensures.same (length i.store) i.rules.items c.self.invariant.2,
      c.self.invariant.3,
      c.self.invariant.4,
    )

pub invariant_of-self-in_err-push : goal.invariant_of-self-in_err-push
invariant_of-self-in_err-push g c =
    let i = c.self.inside in
    rw (c.reserve.ensures.items, c.reserve_changes.ensures.same) (
      subst (λ (ms : List Bool). IsSoundRules i.store i.rules.items ms) (sym c.in_err-push.ensures.refused) c.self.invariant.0,
      c.self.invariant.1,
      c.reserve_rule.ensures.same (length i.store) i.rules.items c.self.invariant.2,
      c.push.ensures.queue,
      c.self.invariant.4,
    )

pub push_rule-requires-clause-present : goal.push_rule-requires-clause-present
push_rule-requires-clause-present g c =
    let i = c.self.inside in
    let index : IsRuleIndex (length i.store) i.rules.items c.push_leaves.new.self =
    c.push_leaves.ensures.same (length i.store) i.rules.items (c.reserve_rule.ensures.same (length i.store) i.rules.items c.self.invariant.2) in
    subst (λ n. ArePresent n c.args.rule) (sym (index.one_each _)) (subst (λ (s : RulesState). ArePresent (length s.domains) c.args.rule) (sym c.self.view_is) c.requires.present)

pub invariant_of-self-2 : goal.invariant_of-self-2
invariant_of-self-2 g c =
    let i = c.self.inside in
    let added : c.push_reserved.new.self.items ≡ i.rules.items ++ c.args.rule ∷ [] = c.push_reserved.ensures.items ∙ ap (λ l. l ++ c.args.rule ∷ []) c.reserve.ensures.items in
    let sound : IsSoundRules i.store c.push_reserved.new.self.items c.push.new.self.settled.items =
    rw (added, c.in_ok-push.ensures.added) (sound_pushed i.store i.rules.items i.queue.settled.items c.args.rule c.requires.different
    (subst (λ (s : RulesState). ArePresent (length s.domains) c.args.rule) (sym c.self.view_is) c.requires.present) c.self.invariant.0) in
    let l = logged i.settled_at_marks.items i.marks.items i.trail.items c.reserve_changes.new.trail.items c.log_change.new.trail.items _ _ _ _ c.self.invariant.4 c.self.invariant.1 sound.present
    c.reserve_changes.ensures.same c.log_change.ensures (reverts_rule {B = g.row.B.Denot} {O = g.row.B-Output.Denot} Require i.store i.rules.items c.push_reserved.new.self.items c.args.rule refl added)
    (λ f. sym c.deref.ensures.value ∙ c.is_logging-is_kept.ensures f) in (
      sound,
      l.0,
      subst (λ cs. IsRuleIndex (length i.store) cs c.push_rule.new.self) (sym added)
          (c.push_rule.ensures (length i.store) i.rules.items
          (c.push_leaves.ensures.same (length i.store) i.rules.items (c.reserve_rule.ensures.same (length i.store) i.rules.items c.self.invariant.2))),
      c.push.ensures.queue,
      l.1,
    )

pub returns-clause-added : goal.returns-clause-added
returns-clause-added g c =
    let i = c.self.inside in
    let added : c.push_reserved.new.self.items ≡ i.rules.items ++ c.args.rule ∷ [] = c.push_reserved.ensures.items ∙ ap (λ l. l ++ c.args.rule ∷ []) c.reserve.ensures.items in
    state_is _ _ _ _ _ _ _ _ _ _ (ap (λ (s : RulesState). s.domains) c.self.view_is)
    (added ∙ ap (λ (s : RulesState). s.rules ++ c.args.rule ∷ []) c.self.view_is)
    (c.in_ok-push.ensures.added ∙ ap (λ (s : RulesState). s.settled ++ false ∷ []) c.self.view_is)
    (logged_marks i.marks.items i.trail.items c.reserve_changes.new.trail.items c.log_change.new.trail.items _ _ _ _ c.self.invariant.1
    c.reserve_changes.ensures.same c.log_change.ensures (reverts_rule {B = g.row.B.Denot} {O = g.row.B-Output.Denot} Require i.store i.rules.items c.push_reserved.new.self.items c.args.rule refl added)
    (λ f. sym c.deref.ensures.value ∙ c.is_logging-is_kept.ensures f)
    ∙ ap (λ (s : RulesState). s.marked) c.self.view_is)
    (ap (λ (s : RulesState). s.were_settled) c.self.view_is)

pub reserve_rule-requires : goal.reserve_rule-requires
reserve_rule-requires g c = c.self.invariant.2.known.0

pub push_rule-requires-clause-lists : goal.push_rule-requires-clause-lists
push_rule-requires-clause-lists g c = subst AreHashLists (sym c.push_leaves.ensures.hashes) c.reserve_rule.ensures.lists

pub push_rule-requires-clause-hash_room : goal.push_rule-requires-clause-hash_room
push_rule-requires-clause-hash_room g c = subst HasHashRoom (sym c.push_leaves.ensures.hashes) c.in_ok-reserve_rule.ensures.hash_room
