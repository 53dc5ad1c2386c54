use Rattle.std.proofs.Common.{◌∙◌, ap, length, subst, sym, ◌∷◌, ◌++◌, [], refl}
use Rattle.std.proofs.lemmas.List.{length_push}
use Rattle.ivl_network.specs.Network.{IsSoundRules, RulesState}
use Rattle.ivl_network.specs.declared.network.change.Change.TheVariants.{Variable}
use Rattle.ivl_network.proofs.Indexes.{index_of_count}
use Rattle.ivl_network.proofs.Logging.{logged, logged_marks, state_is}
use Rattle.ivl_network.proofs.Narrowings.{sound_added}
use Rattle.ivl_network.proofs.Reverting.{reverts_variable}
use Rattle.ivl_network.proofs.network.Network.add_variable.Goals as goal

pub invariant_of-self-in_err-reserve_variable : goal.invariant_of-self-in_err-reserve_variable
invariant_of-self-in_err-reserve_variable g c =
    let i = c.self.inside in (
      c.self.invariant.0,
      rw c.reserve_changes.ensures.same c.self.invariant.1,
      c.reserve_variable.ensures.same (length i.store) i.rules.items c.self.invariant.2,
      c.self.invariant.3,
      rw c.reserve_changes.ensures.same c.self.invariant.4,
    )

pub invariant_of-self-in_err-index : goal.invariant_of-self-in_err-index
invariant_of-self-in_err-index g c =
    let i = c.self.inside in
    rw (c.in_err-index.ensures.err, c.reserve_changes.ensures.same) (
      c.self.invariant.0,
      c.self.invariant.1,
      c.reserve_variable.ensures.same (length i.store) i.rules.items c.self.invariant.2,
      c.self.invariant.3,
      c.self.invariant.4,
    )

pub invariant_of-self-2 : goal.invariant_of-self-2
invariant_of-self-2 g c =
    let i = c.self.inside in
    let added = c.in_ok-index.ensures.added in
    let sound : IsSoundRules c.add_variable.new.self i.rules.items i.queue.settled.items =
    subst (λ sets. IsSoundRules sets i.rules.items i.queue.settled.items) (sym added) (sound_added i.store c.args.domain i.rules.items i.queue.settled.items c.self.invariant.0) in
    let l = logged i.settled_at_marks.items i.marks.items i.trail.items c.reserve_changes.new.trail.items c.log_change.new.trail.items _ _ _ _ c.self.invariant.4 c.self.invariant.1 sound.present
    c.reserve_changes.ensures.same c.log_change.ensures (reverts_variable {B = g.row.B.Denot} {O = g.row.B-Output.Denot} Variable i.store c.add_variable.new.self c.args.domain i.rules.items refl added)
    (λ f. sym c.deref.ensures.value ∙ c.is_logging-is_kept.ensures f) in (
      sound,
      l.0,
      index_of_count _ _ i.rules.items _ (ap length added ∙ length_push i.store c.args.domain)
          (c.push_variable.ensures (length i.store) i.rules.items (c.reserve_variable.ensures.same (length i.store) i.rules.items c.self.invariant.2)),
      c.self.invariant.3,
      l.1,
    )

pub returns-clause-added : goal.returns-clause-added
returns-clause-added g c =
    let i = c.self.inside in
    let added = c.in_ok-index.ensures.added in
    state_is _ _ _ _ _ _ _ _ _ _ (added ∙ ap (λ (s : RulesState). s.domains ++ c.args.domain ∷ []) c.self.view_is) (ap (λ (s : RulesState). s.rules) c.self.view_is)
    (ap (λ (s : RulesState). s.settled) c.self.view_is)
    (logged_marks i.marks.items i.trail.items c.reserve_changes.new.trail.items c.log_change.new.trail.items _ _ _ _ c.self.invariant.1
    c.reserve_changes.ensures.same c.log_change.ensures (reverts_variable {B = g.row.B.Denot} {O = g.row.B-Output.Denot} Variable i.store c.add_variable.new.self c.args.domain i.rules.items refl added)
    (λ f. sym c.deref.ensures.value ∙ c.is_logging-is_kept.ensures f)
    ∙ ap (λ (s : RulesState). s.marked) c.self.view_is)
    (ap (λ (s : RulesState). s.were_settled) c.self.view_is)
