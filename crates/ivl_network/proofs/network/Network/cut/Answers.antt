use Rattle.std.proofs.Common.{◌≡◌, ◌∙◌, ap, false, refl, subst, sym}
use Rattle.ivl_laws.specs.Families.{set_at}
use Rattle.ivl_laws.specs.Sets.{IsSubset}
use Rattle.ivl_network.specs.Network.{IsCutAt, IsSoundRules, RulesState}
use Rattle.ivl_network.specs.Settled.{KeepsSettled}
use Rattle.ivl_network.specs.Trail.{KeepsPast}
use Rattle.ivl_network.proofs.Indexes.{index_of_count}
use Rattle.ivl_network.proofs.Logging.{state_is}
use Rattle.ivl_network.proofs.Marks.{marks_same}
use Rattle.ivl_network.proofs.Narrowings.{sound_moved}
use Rattle.ivl_network.proofs.Settled.{settled_cut}
use Rattle.ivl_network.proofs.Standing.{kept_cut}
use Rattle.ivl_network.proofs.network.Network.cut.Goals as goal

pub invariant_of-self-2 : goal.invariant_of-self-2
invariant_of-self-2 g c =
    let i = c.self.inside in
    let cs = i.rules.items in
    let cut = c.in_ok-lost.ensures.cut in
    let sound : IsSoundRules c.restrict_logged.new.store cs c.wake.new.self.settled.items =
    sound_moved i.store c.restrict_logged.new.store cs i.queue.settled.items c.wake.new.self.settled.items c.restrict_logged.ensures.kept_count
    (settled_cut cs i.queue.settled.items c.wake.new.self.settled.items c.args.variable c.in_ok-lost.lost i.store c.restrict_logged.new.store
    c.self.invariant.0.settled (rw c.deref-3.ensures.value at c.wake.ensures.cleared) c.in_ok-lost.ensures.lost
    (λ j v h. ((cut j v).0 h).0)
    (λ j v ne was. (cut j v).1 (was, λ e. absurd (ne e))))
    c.self.invariant.0 in
    let was : KeepsPast i.marks.items i.trail.items c.restrict_logged.new.trail.items i.store c.restrict_logged.new.store cs =
    subst (λ t. KeepsPast i.marks.items t c.restrict_logged.new.trail.items i.store c.restrict_logged.new.store cs) c.reserve_changes.ensures.same
    (subst (λ ms. KeepsPast ms c.reserve_changes.new.trail.items c.restrict_logged.new.trail.items i.store c.restrict_logged.new.store cs) c.deref-2.ensures.value (c.in_ok-lost.ensures.past cs)) in (
      sound,
      was.sound c.self.invariant.1 c.self.invariant.0.present,
      index_of_count _ _ cs i.index c.restrict_logged.ensures.kept_count c.self.invariant.2,
      c.wake.ensures.queue,
      marks_same i.settled_at_marks.items _ _ c.self.invariant.4 (was.marked c.self.invariant.1 c.self.invariant.0.present),
    )

pub returns-clause-marked : goal.returns-clause-marked
returns-clause-marked g c =
    let i = c.self.inside in
    let cs = i.rules.items in
    let was : KeepsPast i.marks.items i.trail.items c.restrict_logged.new.trail.items i.store c.restrict_logged.new.store cs =
    subst (λ t. KeepsPast i.marks.items t c.restrict_logged.new.trail.items i.store c.restrict_logged.new.store cs) c.reserve_changes.ensures.same
    (subst (λ ms. KeepsPast ms c.reserve_changes.new.trail.items c.restrict_logged.new.trail.items i.store c.restrict_logged.new.store cs) c.deref-2.ensures.value (c.in_ok-lost.ensures.past cs)) in
    was.marked c.self.invariant.1 c.self.invariant.0.present ∙ ap (λ (s : RulesState). s.marked) c.self.view_is

pub returns-clause-cut : goal.returns-clause-cut
returns-clause-cut g c =
    subst (λ (s : RulesState). IsCutAt c.args.variable (g.A.Allowed.members c.args.allowed.now) (set_at s.domains) (set_at c.restrict_logged.new.store)) c.self.view_is c.in_ok-lost.ensures.cut

pub returns-clause-same : goal.returns-clause-same
returns-clause-same g c = λ within.
    let i = c.self.inside in
    let cs = i.rules.items in
    let none : c.in_ok-lost.lost ≡ false = c.in_ok-lost.ensures.kept (subst (λ (s : RulesState). IsSubset (set_at s.domains c.args.variable) (g.A.Allowed.members c.args.allowed.now)) (sym c.self.view_is) within) in
    let was : KeepsPast i.marks.items i.trail.items c.restrict_logged.new.trail.items i.store c.restrict_logged.new.store cs =
    subst (λ t. KeepsPast i.marks.items t c.restrict_logged.new.trail.items i.store c.restrict_logged.new.store cs) c.reserve_changes.ensures.same
    (subst (λ ms. KeepsPast ms c.reserve_changes.new.trail.items c.restrict_logged.new.trail.items i.store c.restrict_logged.new.store cs) c.deref-2.ensures.value (c.in_ok-lost.ensures.past cs)) in
    state_is _ _ _ _ _ _ _ _ _ _ (c.in_ok-lost.ensures.lost none) refl (c.wake.ensures.cleared.kept none) (was.marked c.self.invariant.1 c.self.invariant.0.present) refl ∙ c.self.view_is

pub returns-clause-stays : goal.returns-clause-stays
returns-clause-stays g c =
    let i = c.self.inside in
    subst (λ (s : RulesState). KeepsSettled s.rules (set_at s.domains) (set_at c.restrict_logged.new.store) s.settled c.wake.new.self.settled.items) c.self.view_is
    (kept_cut i.rules.items c.in_ok-lost.lost c.args.variable (g.A.Allowed.members c.args.allowed.now) i.store c.restrict_logged.new.store i.queue.settled.items c.wake.new.self.settled.items
    (rw c.deref-3.ensures.value at c.wake.ensures.cleared) c.in_ok-lost.ensures.cut c.in_ok-lost.ensures.kept)
