use Rattle.std.proofs.Common.{arith, inl, inr, true}
use Rattle.ivl_laws.specs.Families.{set_at}
use Rattle.std.proofs.lemmas.Bool.{false≢true}
use Rattle.ivl_network.proofs.Queues.{all_woken, list_left, list_weaker, lists_woken, none_woken}
use Rattle.ivl_network.proofs.network.queue.Queue.wake.Goals as goal

-- no rule that needs single numbers names the variable
pub returns-then-last-eq0-clause-cleared : goal.returns-then-last-eq0-clause-cleared
returns-then-last-eq0-clause-cleared g c =
    let flags = c.wake_listed.new.self.settled.items in
    lists_woken c.args.rules.now c.args.variable c.args.changed c.args.only_lost c.args.alone (set_at c.args.store.now) c.args.self.now.settled.items flags flags c.if-not-changed.false
    (list_weaker _ _ _ _ _ _ _ (λ rule stays. elim stays [ inl f ↦ f | inr one ↦ absurd (false≢true one.0) ]) c.wake_listed.ensures.cleared)
    (all_woken true c.args.rules.now c.args.variable _ flags flags c.last.result
    (none_woken true c.args.rules.now c.args.variable _ flags c.last.result (c.last.ensures c.requires.index.0 c.args.rules.now c.requires.index.1))
    (let t = c.if-last-eq0.true in omega (arith, t)))

pub returns-then-has_two-clause-cleared : goal.returns-then-has_two-clause-cleared
returns-then-has_two-clause-cleared g c =
    let flags = c.wake_listed.new.self.settled.items in
    lists_woken c.args.rules.now c.args.variable c.args.changed c.args.only_lost c.args.alone (set_at c.args.store.now) c.args.self.now.settled.items flags flags c.if-not-changed.false
    (list_weaker _ _ _ _ _ _ _ (λ rule stays. elim stays [ inl f ↦ f | inr one ↦ absurd (false≢true one.0) ]) c.wake_listed.ensures.cleared)
    (list_left true c.args.rules.now c.args.variable _ flags (λ rule. inr (c.if-only_lost.true, inl (c.has_two.ensures c.if-has_two.true))))

pub returns-clause-cleared : goal.returns-clause-cleared
returns-clause-cleared g c =
    lists_woken c.args.rules.now c.args.variable c.args.changed c.args.only_lost c.args.alone (set_at c.args.store.now) c.args.self.now.settled.items c.wake_listed.new.self.settled.items
    c.wake_listed-2.new.self.settled.items c.if-not-changed.false
    (list_weaker _ _ _ _ _ _ _ (λ rule stays. elim stays [ inl f ↦ f | inr one ↦ absurd (false≢true one.0) ]) c.wake_listed.ensures.cleared)
    (list_weaker _ _ _ _ _ _ _ (λ rule stays. elim stays [
      | inl f ↦ inl f
      | inr one ↦ (let left = c.is_left_alone-keeps_one.ensures one.0 in inr (left.0, inr (left.1, left.2, one.1)))
    ]) c.wake_listed-2.ensures.cleared)
