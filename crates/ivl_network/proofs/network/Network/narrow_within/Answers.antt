use Rattle.std.proofs.Common.{◌≡◌, ◌↔◌, ◌∙◌, ◌∷◌, ◌+◌, ◌<◌, ◌≤◌, Bool, List, ap, arith, [], false, length, refl, rules, set, subst, sym, true, ℕ}
use Rattle.std.proofs.lemmas.List.{get_or_default}
use Rattle.std.specs.Prelude.{ℤ, All}
use Rattle.ivl_laws.specs.Families.{set_at}
use Rattle.ivl_rules.specs.declared.rules.Rule.{Rule}
use Rattle.ivl_network.specs.Costs.{AreRulesCounted, cost_of_rule}
use Rattle.ivl_network.specs.Families.{ArePresent, IsFixedBy}
use Rattle.ivl_rules.specs.Rules.{NarrowedBy, places}
use Rattle.ivl_network.specs.Network.{AreRuleNarrowings, IsSoundRules, IsWaiting, RulesState, work_of_rules}
use Rattle.ivl_network.specs.Queue.{unsettled_count}
use Rattle.ivl_store.specs.Narrowing.{AllPresent}
use Rattle.ivl_store.specs.Settled.{AreLost, any_lost}
use Rattle.ivl_network.specs.Settled.{AreSettledRules, AreTold, KeepsSettled}
use Rattle.ivl_network.proofs.Costs.{counted_one}
use Rattle.ivl_network.proofs.Indexes.{index_of_count}
use Rattle.ivl_network.specs.Trail.{KeepsPast}
use Rattle.ivl_network.proofs.Logging.{state_is}
use Rattle.ivl_network.proofs.Marks.{marks_same}
use Rattle.ivl_network.proofs.Narrowings.{all_fixed, one_narrowing, sound_moved}
use Rattle.ivl_store.proofs.Totals.{total_falls}
use Rattle.ivl_network.proofs.Standing.{kept_same}
use Rattle.ivl_network.proofs.Work.{work_less}
use Rattle.ivl_network.proofs.network.Network.narrow_within.Goals as goal

pub returns-clause-narrowed : goal.returns-clause-narrowed
returns-clause-narrowed g c = λ _ _.
    let cs = c.self.inside.rules.items in
    let lt : c.in-Some.i < length cs = (let a = c.in-Some.ensures.first.0 in let b = c.self.invariant.0.settled.one_each in omega (arith, a, b)) in
    let at = λ (d : Rule). get_or_default cs c.in-Some.i d c.index-rule.result.now lt ∙ sym c.index-rule.ensures in
    let first = c.index-rule.result.now in
    subst (λ (s : RulesState). AreRuleNarrowings s.rules 1 (set_at s.domains) (set_at c.narrow_logged.new.store)) c.self.view_is
    (one_narrowing cs c.in-Some.i first (set_at c.self.inside.store) (set_at c.narrow_logged.new.store) lt
    (subst (λ k. (j : ℕ) (v : ℤ) → set_at c.narrow_logged.new.store j v ↔ NarrowedBy k (set_at c.self.inside.store) j v) (sym (at first)) c.in_ok-lost.ensures.narrowed))

pub returns-clause-fewer : goal.returns-clause-fewer
returns-clause-fewer g c = λ _ _.
    let inside = c.self.inside in
    let flags = inside.queue.settled.items in
    subst (λ (s : RulesState). 1 + work_of_rules g.B.Width.whole (record { domains = c.narrow_logged.new.store; rules = inside.rules.items; settled = c.settle.new.self.settled.items; marked = []; were_settled = [] }) ≤ work_of_rules g.B.Width.whole s) c.self.view_is
    (work_less g.B.Width.whole inside.store c.narrow_logged.new.store (length inside.rules.items) flags c.settle.new.self.settled.items c.in-Some.i (any_lost c.in_ok-lost.lost) c.in-Some.ensures.first.0 c.in-Some.ensures.first.1
    (c.settle.ensures.count ∙ ap length c.deref-3.ensures.value) c.in_ok-lost.ensures.same (λ none. c.settle.ensures.alone none ∙ ap (λ (ms : List Bool). set ms c.in-Some.i true) c.first.ensures.settled)
    (λ t. total_falls g.B.Width.whole inside.store c.narrow_logged.new.store c.in_ok-lost.ensures.range c.narrow_logged.ensures.kept_count (λ i v h. ((c.in_ok-lost.ensures.narrowed i v).0 h).kept)
    (c.in_ok-lost.ensures.lost.some.0 t)))

pub invariant_of-self-2 : goal.invariant_of-self-2
invariant_of-self-2 g c =
    let inside = c.self.inside in
    let cs = inside.rules.items in
    let lt : c.in-Some.i < length cs = (let a = c.in-Some.ensures.first.0 in let b = c.self.invariant.0.settled.one_each in omega (arith, a, b)) in
    let at = λ (d : Rule). sym (get_or_default cs c.in-Some.i d c.index-rule.result.now lt ∙ sym c.index-rule.ensures) in
    let moved = rw c.deref-3.ensures.value at c.settle.ensures.settled in
    let sound : IsSoundRules c.narrow_logged.new.store cs c.settle.new.self.settled.items = sound_moved inside.store c.narrow_logged.new.store cs inside.queue.settled.items c.settle.new.self.settled.items c.narrow_logged.ensures.kept_count
    (moved inside.store
    (λ d. subst (λ k. (j : ℕ) (v : ℤ) → set_at c.narrow_logged.new.store j v ↔ NarrowedBy k (set_at inside.store) j v) (at d) c.in_ok-lost.ensures.narrowed)
    (λ d. subst (λ k. AreLost (places k) c.in_ok-lost.lost (set_at inside.store) (set_at c.narrow_logged.new.store)) (at d) c.in_ok-lost.ensures.lost)
    (subst (λ (ms : List Bool). AreSettledRules cs ms (set_at inside.store)) (sym c.first.ensures.settled) c.self.invariant.0.settled))
    c.self.invariant.0 in
    let was : KeepsPast inside.marks.items inside.trail.items c.narrow_logged.new.trail.items inside.store c.narrow_logged.new.store cs =
    subst (λ t. KeepsPast inside.marks.items t c.narrow_logged.new.trail.items inside.store c.narrow_logged.new.store cs) c.reserve_changes.ensures.same
    (subst (λ ms. KeepsPast ms c.reserve_changes.new.trail.items c.narrow_logged.new.trail.items inside.store c.narrow_logged.new.store cs) c.deref-2.ensures.value (c.in_ok-lost.ensures.past cs)) in (
      sound,
      was.sound c.self.invariant.1 c.self.invariant.0.present,
      index_of_count _ _ cs inside.index c.narrow_logged.ensures.kept_count c.self.invariant.2,
      c.settle.ensures.queue,
      marks_same inside.settled_at_marks.items _ _ c.self.invariant.4 (was.marked c.self.invariant.1 c.self.invariant.0.present),
    )

pub returns-clause-marked : goal.returns-clause-marked
returns-clause-marked g c =
    let inside = c.self.inside in
    let cs = inside.rules.items in
    let was : KeepsPast inside.marks.items inside.trail.items c.narrow_logged.new.trail.items inside.store c.narrow_logged.new.store cs =
    subst (λ t. KeepsPast inside.marks.items t c.narrow_logged.new.trail.items inside.store c.narrow_logged.new.store cs) c.reserve_changes.ensures.same
    (subst (λ ms. KeepsPast ms c.reserve_changes.new.trail.items c.narrow_logged.new.trail.items inside.store c.narrow_logged.new.store cs) c.deref-2.ensures.value (c.in_ok-lost.ensures.past cs)) in
    was.marked c.self.invariant.1 c.self.invariant.0.present ∙ ap (λ (s : RulesState). s.marked) c.self.view_is

pub returns-clause-counted : goal.returns-clause-counted
returns-clause-counted g c = λ t cost e.
    let inside = c.self.inside in
    let cs = inside.rules.items in
    let lt : c.in-Some.i < length cs = (let a = c.in-Some.ensures.first.0 in let b = c.self.invariant.0.settled.one_each in omega (arith, a, b)) in
    let is : c.cost_if-cost.result ≡ cost = cc in
    let positive = c.cost_if-cost.ensures.positive t in
    let within = c.if-cost-left.false in
    subst (λ (s : RulesState). (0 < cost) × (cost ≤ c.args.left) × (d : Rule) × AreRulesCounted s.rules (d ∷ []) cost s.domains c.narrow_logged.new.store) c.self.view_is (
      omega (arith, is, positive),
      omega (arith, is, within),
      c.index-rule.result.now,
      counted_one cs c.in-Some.i c.index-rule.result.now cost inside.store c.narrow_logged.new.store lt (sym c.index-rule.ensures) c.in_ok-lost.ensures.narrowed (sym is ∙ c.cost_if-cost.ensures.cost t c.index-rule.result.now c.places-c.ensures),
    )

pub returns-then-cost-left-clause-costly : goal.returns-then-cost-left-clause-costly
returns-then-cost-left-clause-costly g c = λ _.
    let cs = c.self.inside.rules.items in
    let lt : c.in-Some.i < length cs = (let a = c.in-Some.ensures.first.0 in let b = c.self.invariant.0.settled.one_each in omega (arith, a, b)) in
    let above = c.if-cost-left.true in
    let cost = c.cost_if-cost.ensures.cost (is_counted c.args.is_counted _ c.args.left c.cost_if-cost.ensures.none above) c.index-rule.result.now c.places-c.ensures in (
      state_is _ _ _ _ _ _ _ _ _ _ refl refl c.first.ensures.settled refl refl ∙ c.self.view_is,
      c.index-rule.result.now,
      subst (λ (s : RulesState). IsWaiting s c.index-rule.result.now) c.self.view_is (c.in-Some.i, lt, sym c.index-rule.ensures, sym (get_or_default c.self.inside.queue.settled.items c.in-Some.i false true c.in-Some.ensures.first.0) ∙ c.in-Some.ensures.first.1),
      subst (λ (s : RulesState). c.args.left < cost_of_rule c.index-rule.result.now s.domains) c.self.view_is (omega (arith, above, cost)),
    )
  where
    -- what is not counted is not above what is left
    is_counted : (b : Bool) (cost left : ℕ) → (b ≡ false → cost ≡ 0) → left < cost → b ≡ true
    is_counted true cost left none above = refl
    is_counted false cost left none above = absurd (let e = none refl in omega (arith, e, above))

pub cost_if-cost-requires : goal.cost_if-cost-requires
cost_if-cost-requires g c =
    let cs = c.self.inside.rules.items in
    let lt : c.in-Some.i < length cs = (let a = c.in-Some.ensures.first.0 in let b = c.self.invariant.0.settled.one_each in omega (arith, a, b)) in
    subst (AllPresent (length c.self.inside.store)) (sym c.places-c.ensures) (subst (ArePresent (length c.self.inside.store)) (sym c.index-rule.ensures) (c.self.invariant.0.present c.in-Some.i c.index-rule.result.now lt))

pub returns-in_default-clause-done : goal.returns-in_default-clause-done
returns-in_default-clause-done g c = ((λ _. ap (λ (s : RulesState). unsettled_count s.settled) (sym c.self.view_is) ∙ c.first.ensures.none.0 (search rules)), (λ _. refl))

pub returns-in_default-clause-none : goal.returns-in_default-clause-none
returns-in_default-clause-none g c = λ _. (
  state_is _ _ _ _ _ _ _ _ _ _ refl refl c.first.ensures.settled refl refl ∙ c.self.view_is,
  subst (λ (s : RulesState). All (IsFixedBy (set_at s.domains)) s.rules) c.self.view_is
      (all_fixed c.self.inside.rules.items c.self.inside.queue.settled.items (set_at c.self.inside.store) c.self.invariant.0.settled c.in_default.ensures.first),
)

pub returns-clause-stays : goal.returns-clause-stays
returns-clause-stays g c =
    let inside = c.self.inside in
    let cs = inside.rules.items in
    let lt : c.in-Some.i < length cs = (let a = c.in-Some.ensures.first.0 in let b = c.self.invariant.0.settled.one_each in omega (arith, a, b)) in
    let at = λ (d : Rule). sym (get_or_default cs c.in-Some.i d c.index-rule.result.now lt ∙ sym c.index-rule.ensures) in
    let moved = rw c.deref-3.ensures.value at c.settle.ensures.stays in
    subst (λ (s : RulesState). KeepsSettled s.rules (set_at s.domains) (set_at c.narrow_logged.new.store) s.settled c.settle.new.self.settled.items) c.self.view_is
    (subst (λ (ms : List Bool). KeepsSettled cs (set_at inside.store) (set_at c.narrow_logged.new.store) ms c.settle.new.self.settled.items) c.first.ensures.settled
    (moved inside.store (λ d. subst (λ k. AreTold (places k) c.in_ok-lost.lost (set_at inside.store) (set_at c.narrow_logged.new.store)) (at d) c.in_ok-lost.ensures.told)))

pub returns-then-cost-left-clause-stays : goal.returns-then-cost-left-clause-stays
returns-then-cost-left-clause-stays g c =
    kept_same c.args.self.now _ (state_is _ _ _ _ _ _ _ _ _ _ refl refl c.first.ensures.settled refl refl ∙ c.self.view_is)

pub returns-in_default-clause-stays : goal.returns-in_default-clause-stays
returns-in_default-clause-stays g c =
    kept_same c.args.self.now _ (state_is _ _ _ _ _ _ _ _ _ _ refl refl c.first.ensures.settled refl refl ∙ c.self.view_is)
