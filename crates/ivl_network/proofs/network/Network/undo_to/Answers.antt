use Rattle.std.proofs.Common.{◌≡◌, ◌∙◌, ◌<◌, ap, arith, get_or, false, length, subst, sym, take}
use Rattle.std.proofs.lemmas.List.{get_or-map, get_or_default, length-map}
use Rattle.ivl_network.specs.Network.{RulesState}
use Rattle.ivl_network.specs.Trail.{AreFixedIn, RulesPast, rules_past_at}
use Rattle.ivl_network.proofs.Logging.{undone_marks, undone_trail}
use Rattle.ivl_network.proofs.Marks.{fewer_marks, fixed_at, sound_claimed, sound_settled}
use Rattle.ivl_network.proofs.network.Network.undo_to.Goals as goal

pub revert_to-requires-clause-present : goal.revert_to-requires-clause-present
revert_to-requires-clause-present g c = λ m low high.
    let i = c.self.inside in
    let lt : c.args.mark < length i.marks.items = (let t = c.if-mark-len.false in let e = c.len.ensures in omega (arith, t, e)) in
    let at : c.index-start.result.now ≡ get_or i.marks.items c.args.mark 0 = c.index-start.ensures ∙ get_or_default i.marks.items c.args.mark c.index-start.result.now 0 lt in
    c.self.invariant.1.present c.args.mark m lt (omega (arith, at, low)) high

pub revert_to-requires-clause-sound : goal.revert_to-requires-clause-sound
revert_to-requires-clause-sound g c =
    let i = c.self.inside in
    sound_claimed _ i.store i.rules.items i.queue.settled.items c.self.invariant.0

pub invariant_of-self : goal.invariant_of-self
invariant_of-self g c =
    let i = c.self.inside in
    let lt : c.args.mark < length i.marks.items = (let t = c.if-mark-len.false in let e = c.len.ensures in omega (arith, t, e)) in
    let below : c.args.mark < length i.settled_at_marks.items = (
    let o = c.self.invariant.4.one_each in
    let m = length-map i.marks.items (rules_past_at i.trail.items (record { domains = i.store; rules = i.rules.items })) in
    omega (arith, o, m, lt)) in (
      sound_settled c.revert_to.new.store c.revert_to.new.rules.items c.revert_to.new.queue.settled.items c.settle_all.new.self.settled.items c.index-were_settled.result.now c.revert_to.ensures.sound
          c.settle_all.ensures.count c.settle_all.ensures.same
          (λ set. subst AreFixedIn (sym c.revert_to.ensures.past) (fixed_at i.settled_at_marks.items i.marks.items i.trail.items _ c.args.mark c.index-start.result.now c.self.invariant.4 lt
          (c.index-start.ensures ∙ get_or_default i.marks.items c.args.mark c.index-start.result.now 0 lt) (sym (c.index-were_settled.ensures ∙ get_or_default i.settled_at_marks.items c.args.mark c.index-were_settled.result.now false below) ∙ set))),
      undone_trail i.marks.items c.truncate.new.self.items i.trail.items c.revert_to.new.trail.items _ _ c.args.mark c.index-start.result.now c.self.invariant.1 lt
          (c.index-start.ensures ∙ get_or_default i.marks.items c.args.mark c.index-start.result.now 0 lt) c.truncate.ensures.items c.revert_to.ensures.trail c.revert_to.ensures.past,
      c.revert_to.ensures.index,
      c.settle_all.ensures.queue,
      rw c.truncate-2.ensures.items (fewer_marks i.settled_at_marks.items _ _ c.args.mark c.self.invariant.4
          (undone_marks i.marks.items c.truncate.new.self.items i.trail.items c.revert_to.new.trail.items _ _ c.args.mark c.index-start.result.now c.self.invariant.1 lt
          (c.index-start.ensures ∙ get_or_default i.marks.items c.args.mark c.index-start.result.now 0 lt) c.truncate.ensures.items c.revert_to.ensures.trail c.revert_to.ensures.past)),
    )

pub returns-clause-marked : goal.returns-clause-marked
returns-clause-marked g c = λ _.
    let i = c.self.inside in
    let lt : c.args.mark < length i.marks.items = (let t = c.if-mark-len.false in let e = c.len.ensures in omega (arith, t, e)) in
    undone_marks i.marks.items c.truncate.new.self.items i.trail.items c.revert_to.new.trail.items _ _ c.args.mark c.index-start.result.now c.self.invariant.1 lt
    (c.index-start.ensures ∙ get_or_default i.marks.items c.args.mark c.index-start.result.now 0 lt) c.truncate.ensures.items c.revert_to.ensures.trail c.revert_to.ensures.past
    ∙ ap (λ (s : RulesState). take c.args.mark s.marked) c.self.view_is

pub returns-clause-undone : goal.returns-clause-undone
returns-clause-undone g c = λ _ d.
    let i = c.self.inside in
    let lt : c.args.mark < length i.marks.items = (let t = c.if-mark-len.false in let e = c.len.ensures in omega (arith, t, e)) in
    let now : RulesPast = record { domains = i.store; rules = i.rules.items } in
    let past : get_or c.args.self.now.marked c.args.mark d ≡ rules_past_at i.trail.items now c.index-start.result.now =
    ap (λ (s : RulesState). get_or s.marked c.args.mark d) (sym c.self.view_is)
    ∙ get_or-map (rules_past_at i.trail.items now) i.marks.items c.args.mark c.index-start.result.now d lt
    ∙ ap (rules_past_at i.trail.items now) (sym c.index-start.ensures) in
    let e = c.revert_to.ensures.past ∙ sym past in
    (ap (λ (p : RulesPast). p.domains) e, ap (λ (p : RulesPast). p.rules) e)

pub returns-clause-were_settled : goal.returns-clause-were_settled
returns-clause-were_settled g c = λ _. c.truncate-2.ensures.items ∙ ap (λ (s : RulesState). take c.args.mark s.were_settled) c.self.view_is

pub returns-clause-settled : goal.returns-clause-settled
returns-clause-settled g c = λ _ d were.
    let i = c.self.inside in
    let lt : c.args.mark < length i.marks.items = (let t = c.if-mark-len.false in let e = c.len.ensures in omega (arith, t, e)) in
    let below : c.args.mark < length i.settled_at_marks.items = (
    let o = c.self.invariant.4.one_each in
    let m = length-map i.marks.items (rules_past_at i.trail.items (record { domains = i.store; rules = i.rules.items })) in
    omega (arith, o, m, lt)) in
    c.settle_all.ensures.none (c.index-were_settled.ensures ∙ get_or_default i.settled_at_marks.items c.args.mark c.index-were_settled.result.now d below
    ∙ ap (λ (s : RulesState). get_or s.were_settled c.args.mark d) c.self.view_is ∙ were)
