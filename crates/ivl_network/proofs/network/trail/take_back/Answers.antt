use Rattle.std.proofs.Common.{◌≡◌, ◌∙◌, ◌-◌, List, ap, arith, false, length, subst, sym, take}
use Rattle.std.specs.Prelude.{ℤ, All}
use Rattle.ivl_laws.specs.Families.{set_at}
use Rattle.ivl_rules.specs.declared.rules.Rule.{Rule}
use Rattle.std.proofs.lemmas.List.{length-take}
use Rattle.ivl_network.specs.Families.{ArePresent}
use Rattle.ivl_network.specs.Network.{IsSoundRules}
use Rattle.ivl_network.specs.Queue.{IsRuleIndex}
use Rattle.ivl_network.specs.Settled.{AreClearedRules, claimed_flags}
use Rattle.ivl_network.proofs.Settled.{claimed_cleared, claimed_length, claimed_take}
use Rattle.ivl_network.proofs.Indexes.{index_of_count, present_last}
use Rattle.ivl_network.proofs.Reverting.{sound_replaced, sound_without_rules, sound_without_variable}
use Rattle.ivl_network.proofs.network.trail.take_back.Goals as goal

pub returns-in-Domain-clause-sound : goal.returns-in-Domain-clause-sound
returns-in-Domain-clause-sound g c =
    let rules = c.args.rules.now.items in
    let wakes = c.args.wakes in
    let before = c.args.queue.now.settled.items in
    let after = c.wake.new.self.settled.items in
    rw c.put_back.ensures (sound_replaced c.args.store.now rules (claimed_flags wakes before) (claimed_flags wakes after) c.in-Domain.variable c.in-Domain.set c.requires.sound
    (claimed_cleared wakes rules c.in-Domain.variable _ before after
    (subst (λ (sets : List (List (ℤ × ℤ))). AreClearedRules wakes false false rules c.in-Domain.variable (set_at sets) before after) c.put_back.ensures
    (subst (λ (cs : List Rule). AreClearedRules wakes false false cs c.in-Domain.variable (set_at c.put_back.new.store) before after) c.deref.ensures.value c.wake.ensures.cleared))))

pub returns-in-Variable-clause-sound : goal.returns-in-Variable-clause-sound
returns-in-Variable-clause-sound g c =
    rw c.drop_variable.ensures (sound_without_variable c.args.store.now c.args.rules.now.items (claimed_flags c.args.wakes c.args.queue.now.settled.items) _ c.requires.sound
    (rw c.in-Variable.is at c.requires.present))

pub returns-in-Variable-clause-index : goal.returns-in-Variable-clause-index
returns-in-Variable-clause-index g c =
    let n = length-take (length c.args.store.now - 1) c.args.store.now in
    let e : length (take (length c.args.store.now - 1) c.args.store.now) ≡ length c.args.store.now - 1 = omega (arith, n) in
    index_of_count _ _ c.args.rules.now.items c.pop_variable.new.self (ap length c.drop_variable.ensures ∙ e)
    (c.pop_variable.ensures (length c.args.store.now) c.args.rules.now.items c.requires.index
    (subst (λ m. All (ArePresent m) c.args.rules.now.items) e (rw c.in-Variable.is at c.requires.present)))

pub pop_rule-requires-clause-lists : goal.pop_rule-requires-clause-lists
pop_rule-requires-clause-lists g c = c.requires.index.known.0

pub pop_rule-requires-clause-present : goal.pop_rule-requires-clause-present
pop_rule-requires-clause-present g c = present_last (length c.args.store.now) c.args.rules.now.items c.pop.new.self.items _ c.args.index.now c.in-Some.ensures.items c.requires.sound.present c.requires.index

pub returns-in-Some-clause-index : goal.returns-in-Some-clause-index
returns-in-Some-clause-index g c =
    c.pop_rule.ensures (length c.args.store.now) c.pop.new.self.items (subst (λ cs. IsRuleIndex (length c.args.store.now) cs c.args.index.now) c.in-Some.ensures.items c.requires.index)

pub returns-in-Some-clause-sound : goal.returns-in-Some-clause-sound
returns-in-Some-clause-sound g c =
    let cs = c.args.rules.now.items in
    let ms = c.args.queue.now.settled.items in
    let wakes = c.args.wakes in
    let n = length cs - 1 in
    let each : length ms ≡ length cs = sym (claimed_length wakes ms) ∙ c.requires.sound.settled.one_each in
    let e : c.pop.new.self.items ≡ take n cs = c.in-Some.ensures.rest ∙ ap (λ m. take m cs) (let o = c.args.rules.now.ok.0 in omega (arith, o)) in
    let f : c.pop-in-Some.new.self.settled.items ≡ take n ms = c.pop-in-Some.ensures.left ∙ ap (λ m. take (m - 1) ms) each in
    subst (λ ds. IsSoundRules c.args.store.now ds (claimed_flags wakes c.pop-in-Some.new.self.settled.items)) (sym e)
    (subst (λ ns. IsSoundRules c.args.store.now (take n cs) (claimed_flags wakes ns)) (sym f)
    (subst (IsSoundRules c.args.store.now (take n cs)) (claimed_take wakes n ms) (sound_without_rules c.args.store.now cs (claimed_flags wakes ms) n c.requires.sound)))
