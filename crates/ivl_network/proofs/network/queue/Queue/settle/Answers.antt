use Rattle.std.proofs.Common.{◌<◌, List, Bool, arith, length, set, subst, sym, true}
use Rattle.ivl_store.specs.declared.store.constraint.Constraint.{Constraint}
use Rattle.ivl_network.specs.Settled.{AreClearedRules, AreSettledRules, KeepsSettled}
use Rattle.ivl_laws.specs.Families.{set_at}
use Rattle.ivl_network.proofs.Indexes.{any_rule}
use Rattle.ivl_network.proofs.Settled.{flags_moved}
use Rattle.ivl_network.proofs.Standing.{kept_moved}
use Rattle.ivl_network.proofs.network.queue.Queue.settle.Goals as goal

pub returns-clause-settled : goal.returns-clause-settled
returns-clause-settled g c = λ old n l s.
    let new = c.args.store.now in
    let rules = c.args.rules.now in
    let alone = c.is_one_at_most-alone.result in
    let e = c.requires.places any_rule in
    subst (λ ms. AreSettledRules rules ms (set_at new)) (sym c.settle_first.ensures.settled)
    (flags_moved rules c.args.i any_rule c.args.lost alone c.args.self.now.settled.items c.wake.new.self.settled.items c.wake-2.new.self.settled.items c.wake-3.new.self.settled.items old new c.requires.in_list c.is_one_at_most-alone.ensures
    (subst (λ (p : Constraint). AreClearedRules c.args.lost.x true alone rules p.x (set_at new) c.args.self.now.settled.items c.wake.new.self.settled.items) e c.wake.ensures.cleared)
    (subst (λ (p : Constraint). AreClearedRules c.args.lost.y true alone rules p.y (set_at new) c.wake.new.self.settled.items c.wake-2.new.self.settled.items) e c.wake-2.ensures.cleared)
    (subst (λ (p : Constraint). AreClearedRules c.args.lost.z true alone rules p.z (set_at new) c.wake-2.new.self.settled.items c.wake-3.new.self.settled.items) e c.wake-3.ensures.cleared) n l s)

pub returns-clause-stays : goal.returns-clause-stays
returns-clause-stays g c = λ old told.
    let new = c.args.store.now in
    let rules = c.args.rules.now in
    let alone = c.is_one_at_most-alone.result in
    let e = c.requires.places any_rule in
    let within : c.args.i < length c.wake-3.new.self.settled.items =
    (let a = c.wake.ensures.cleared.same_count in let b = c.wake-2.ensures.cleared.same_count in let d = c.wake-3.ensures.cleared.same_count in let n = c.requires.one_each in let l = c.requires.in_list in omega (arith, a, b, d, n, l)) in
    subst (λ (ms : List Bool). KeepsSettled rules (set_at old) (set_at new) c.args.self.now.settled.items ms) (sym c.settle_first.ensures.settled)
    (kept_moved rules _ c.args.lost alone (set_at old) (set_at new) c.args.i c.args.self.now.settled.items c.wake.new.self.settled.items c.wake-2.new.self.settled.items c.wake-3.new.self.settled.items within (told any_rule)
    (subst (λ (p : Constraint). AreClearedRules c.args.lost.x true alone rules p.x (set_at new) c.args.self.now.settled.items c.wake.new.self.settled.items) e c.wake.ensures.cleared)
    (subst (λ (p : Constraint). AreClearedRules c.args.lost.y true alone rules p.y (set_at new) c.wake.new.self.settled.items c.wake-2.new.self.settled.items) e c.wake-2.ensures.cleared)
    (subst (λ (p : Constraint). AreClearedRules c.args.lost.z true alone rules p.z (set_at new) c.wake-2.new.self.settled.items c.wake-3.new.self.settled.items) e c.wake-3.ensures.cleared))
