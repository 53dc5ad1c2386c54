use Rattle.std.proofs.Common.{arith, sym, subst, refl}
use Rattle.ivl_network.specs.Queue.{IsRuleQueue}
use Rattle.ivl_network.proofs.Queues.{popped_late, popped_later, popped_settled, popped_round}
use Rattle.ivl_network.proofs.network.queue.Queue.pop.Goals.{else-not-is_settled-via-then-not-is_settled+then-not-remove+else-not-remove-2, else-not-is_settled-via-then-not-is_settled+else-not-remove, else-not-is_settled-via-else-not-is_settled}
use Rattle.ivl_network.proofs.network.queue.Queue.pop.Goals as goal

pub returns-then-not-remove-2-clause-queue : goal.returns-then-not-remove-2-clause-queue
returns-then-not-remove-2-clause-queue c =
    popped_round c.args.self.now _ c.in-Some.is_settled c.len-k.result c.remove-then-not-remove-2.result c.requires c.in-Some.ensures.items c.if-not-is_settled.true
    (let e = c.len-k.ensures in let n = c.pop.new.self.ok.0 in omega (arith, e, n)) c.if-not-remove.ensures.removed c.if-not-remove-2.ensures.removed c.remove-then-not-remove-2.ensures.removed
    (c.remove-then-not-remove-2.ensures.capacity, c.remove.ensures.capacity, c.remove-then-not-remove.ensures.capacity)

pub returns-else-not-is_settled-clause-queue : goal.returns-else-not-is_settled-clause-queue
returns-else-not-is_settled-clause-queue c = elim c.else-not-is_settled.branch [
  | else-not-is_settled-via-then-not-is_settled+then-not-remove+else-not-remove-2 w ↦ subst IsRuleQueue (sym w.self-is)
      (popped_late c.args.self.now _ c.in-Some.is_settled c.len-k.result c.requires c.in-Some.ensures.items w.if-not-is_settled.true
      (let e = c.len-k.ensures in let n = c.pop.new.self.ok.0 in omega (arith, e, n)) refl w.if-not-remove.ensures.removed w.if-not-remove-2.ensures.removed
      (refl, w.remove.ensures.capacity, w.remove-then-not-remove.ensures.capacity))
  | else-not-is_settled-via-then-not-is_settled+else-not-remove w ↦ subst IsRuleQueue (sym w.self-is)
      (popped_later c.args.self.now _ c.in-Some.is_settled c.len-k.result c.requires c.in-Some.ensures.items w.if-not-is_settled.true
      (let e = c.len-k.ensures in let n = c.pop.new.self.ok.0 in omega (arith, e, n)) refl w.if-not-remove.ensures.removed refl (refl, w.remove.ensures.capacity, refl))
  | else-not-is_settled-via-else-not-is_settled w ↦ subst IsRuleQueue (sym w.self-is)
      (popped_settled c.args.self.now _ c.in-Some.is_settled c.requires c.in-Some.ensures.items w.if-not-is_settled.false refl refl refl (refl, refl, refl))
]
