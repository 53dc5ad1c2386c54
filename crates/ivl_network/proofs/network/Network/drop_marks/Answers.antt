use Rattle.std.proofs.Common.{◌∙◌, ap, take}
use Rattle.ivl_network.specs.Network.{RulesState}
use Rattle.ivl_network.proofs.Logging.{dropped_marks, dropped_trail, state_is}
use Rattle.ivl_network.proofs.Marks.{fewer_marks}
use Rattle.ivl_network.proofs.network.Network.drop_marks.Goals as goal

pub invariant_of-self : goal.invariant_of-self
invariant_of-self g c =
    let i = c.self.inside in (
      c.self.invariant.0,
      dropped_trail i.marks.items c.truncate.new.self.items i.trail.items c.clear_unmarked.new.trail.items _ c.args.mark c.self.invariant.1 c.truncate.ensures.items
          (rw c.deref.ensures.value at c.clear_unmarked.ensures),
      c.self.invariant.2,
      c.self.invariant.3,
      rw c.truncate-2.ensures.items (fewer_marks i.settled_at_marks.items _ _ c.args.mark c.self.invariant.4
          (dropped_marks i.marks.items c.truncate.new.self.items i.trail.items c.clear_unmarked.new.trail.items _ c.args.mark c.truncate.ensures.items
          (rw c.deref.ensures.value at c.clear_unmarked.ensures))),
    )

pub returns : goal.returns
returns g c =
    let i = c.self.inside in
    state_is _ _ _ _ _ _ _ _ _ _ (ap (λ (s : RulesState). s.domains) c.self.view_is) (ap (λ (s : RulesState). s.rules) c.self.view_is)
    (ap (λ (s : RulesState). s.settled) c.self.view_is)
    (dropped_marks i.marks.items c.truncate.new.self.items i.trail.items c.clear_unmarked.new.trail.items _ c.args.mark c.truncate.ensures.items
    (rw c.deref.ensures.value at c.clear_unmarked.ensures) ∙ ap (λ (s : RulesState). take c.args.mark s.marked) c.self.view_is)
    (c.truncate-2.ensures.items ∙ ap (λ (s : RulesState). take c.args.mark s.were_settled) c.self.view_is)
