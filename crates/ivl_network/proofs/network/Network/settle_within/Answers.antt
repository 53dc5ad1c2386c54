use Rattle.std.proofs.Common.{◌+◌, ◌<◌, arith, length, subst, sym, refl}
use Rattle.std.specs.Prelude.{All}
use Rattle.ivl_laws.specs.Families.{set_at}
use Rattle.ivl_network.specs.Costs.{cost_of_rule}
use Rattle.ivl_network.specs.Families.{IsFixedBy}
use Rattle.ivl_network.specs.Network.{IsWaiting, RulesState}
use Rattle.ivl_network.proofs.Budgets.{made_more, made_none, made_same, within_before}
use Rattle.ivl_network.proofs.Narrowings.{narrowings_greatest, narrowings_keep, narrowings_solve}
use Rattle.ivl_network.proofs.network.Network.settle_within.Goals as goal

pub loop-cost-init : goal.loop-cost-init
loop-cost-init g c = made_none g.B.Width.whole c.args.budget c.args.self.now

pub returns-in_err-narrow_within-clause-keeps : goal.returns-in_err-narrow_within-clause-keeps
returns-in_err-narrow_within-clause-keeps g c =
    let h = made_same g.B.Width.whole c.args.budget c.loop-cost.left c.args.self.now c.loop-cost.self c.narrow_within.new.self c.in_err-narrow_within.ensures.refused c.loop-cost.invariant in
    narrowings_keep c.args.self.now.rules (length h.by) c.args.self.now.domains c.narrow_within.new.self.domains h.narrowed

pub returns-in_err-narrow_within-clause-solutions : goal.returns-in_err-narrow_within-clause-solutions
returns-in_err-narrow_within-clause-solutions g c =
    let h = made_same g.B.Width.whole c.args.budget c.loop-cost.left c.args.self.now c.loop-cost.self c.narrow_within.new.self c.in_err-narrow_within.ensures.refused c.loop-cost.invariant in
    narrowings_solve c.args.self.now.rules (length h.by) c.args.self.now.domains c.narrow_within.new.self.domains h.narrowed

pub returns-in-Settled-clause-keeps : goal.returns-in-Settled-clause-keeps
returns-in-Settled-clause-keeps g c =
    let h = made_same g.B.Width.whole c.args.budget c.loop-cost.left c.args.self.now c.loop-cost.self c.narrow_within.new.self (c.in_ok-narrow_within.ensures.none c.in-Settled.is).0 c.loop-cost.invariant in
    narrowings_keep c.args.self.now.rules (length h.by) c.args.self.now.domains c.narrow_within.new.self.domains h.narrowed

pub returns-in-Settled-clause-solutions : goal.returns-in-Settled-clause-solutions
returns-in-Settled-clause-solutions g c =
    let h = made_same g.B.Width.whole c.args.budget c.loop-cost.left c.args.self.now c.loop-cost.self c.narrow_within.new.self (c.in_ok-narrow_within.ensures.none c.in-Settled.is).0 c.loop-cost.invariant in
    narrowings_solve c.args.self.now.rules (length h.by) c.args.self.now.domains c.narrow_within.new.self.domains h.narrowed

pub returns-in-Costly-clause-keeps : goal.returns-in-Costly-clause-keeps
returns-in-Costly-clause-keeps g c =
    let h = made_same g.B.Width.whole c.args.budget c.loop-cost.left c.args.self.now c.loop-cost.self c.narrow_within.new.self (c.in_ok-narrow_within.ensures.costly c.in-Costly.is).0 c.loop-cost.invariant in
    narrowings_keep c.args.self.now.rules (length h.by) c.args.self.now.domains c.narrow_within.new.self.domains h.narrowed

pub returns-in-Costly-clause-solutions : goal.returns-in-Costly-clause-solutions
returns-in-Costly-clause-solutions g c =
    let h = made_same g.B.Width.whole c.args.budget c.loop-cost.left c.args.self.now c.loop-cost.self c.narrow_within.new.self (c.in_ok-narrow_within.ensures.costly c.in-Costly.is).0 c.loop-cost.invariant in
    narrowings_solve c.args.self.now.rules (length h.by) c.args.self.now.domains c.narrow_within.new.self.domains h.narrowed

pub returns-in-Settled-clause-greatest : goal.returns-in-Settled-clause-greatest
returns-in-Settled-clause-greatest g c = λ _.
    let none = c.in_ok-narrow_within.ensures.none c.in-Settled.is in
    let h = made_same g.B.Width.whole c.args.budget c.loop-cost.left c.args.self.now c.loop-cost.self c.narrow_within.new.self (c.in_ok-narrow_within.ensures.none c.in-Settled.is).0 c.loop-cost.invariant in
    narrowings_greatest c.args.self.now.rules (length h.by) c.args.self.now.domains c.narrow_within.new.self.domains h.narrowed
    (subst (λ (s : RulesState). All (IsFixedBy (set_at s.domains)) c.args.self.now.rules) (sym none.0)
    (subst (λ cs. All (IsFixedBy (set_at c.loop-cost.self.domains)) cs) c.loop-cost.invariant.rules none.1))

pub returns-in-Settled-clause-made : goal.returns-in-Settled-clause-made
returns-in-Settled-clause-made g c =
    let h = made_same g.B.Width.whole c.args.budget c.loop-cost.left c.args.self.now c.loop-cost.self c.narrow_within.new.self (c.in_ok-narrow_within.ensures.none c.in-Settled.is).0 c.loop-cost.invariant in
    let spent = h.spent in
    (h.by, h.cost, h.counted, omega (arith, spent), (λ e. absurd (cc)), h.fewer)

pub returns-in-Costly-clause-made : goal.returns-in-Costly-clause-made
returns-in-Costly-clause-made g c =
    let costly = c.in_ok-narrow_within.ensures.costly c.in-Costly.is in
    let h = made_same g.B.Width.whole c.args.budget c.loop-cost.left c.args.self.now c.loop-cost.self c.narrow_within.new.self (c.in_ok-narrow_within.ensures.costly c.in-Costly.is).0 c.loop-cost.invariant in
    let spent = h.spent in (
      h.by,
      h.cost,
      h.counted,
      omega (arith, spent),
      (λ _. (
        costly.1,
        subst (λ (s : RulesState). IsWaiting s costly.1) (sym costly.0) costly.2,
        subst (λ (s : RulesState). c.args.budget < h.cost + cost_of_rule costly.1 s.domains) (sym costly.0) (let less = costly.3 in omega (arith, spent, less)),
      )),
      h.fewer,
    )

pub loop-cost-preserved : goal.loop-cost-preserved
loop-cost-preserved g c =
    let cost = c.in-Made.cost in
    let k = c.in_ok-narrow_within.ensures.counted refl cost c.in-Made.is in
    made_more g.B.Width.whole c.args.budget c.loop-cost.left _ c.args.self.now c.loop-cost.self c.narrow_within.new.self k.2 cost c.loop-cost.invariant
    c.narrow_within.ensures.rules c.narrow_within.ensures.kept_count c.narrow_within.ensures.marked c.narrow_within.ensures.were_settled c.in_ok-narrow_within.ensures.stays k.1 refl k.3
    (c.in_ok-narrow_within.ensures.narrowed cost c.in-Made.is) (c.in_ok-narrow_within.ensures.fewer cost c.in-Made.is)

pub returns-in_err-narrow_within-clause-made_before : goal.returns-in_err-narrow_within-clause-made_before
returns-in_err-narrow_within-clause-made_before g c =
    let h = made_same g.B.Width.whole c.args.budget c.loop-cost.left c.args.self.now c.loop-cost.self c.narrow_within.new.self c.in_err-narrow_within.ensures.refused c.loop-cost.invariant in
    within_before c.from_residual.result g.B.Width.whole c.args.budget c.loop-cost.left c.args.self.now c.narrow_within.new.self h

pub returns-in_err-narrow_within-clause-stays : goal.returns-in_err-narrow_within-clause-stays
returns-in_err-narrow_within-clause-stays g c =
    (made_same g.B.Width.whole c.args.budget c.loop-cost.left c.args.self.now c.loop-cost.self c.narrow_within.new.self c.in_err-narrow_within.ensures.refused c.loop-cost.invariant).stays

pub returns-in-Settled-clause-stays : goal.returns-in-Settled-clause-stays
returns-in-Settled-clause-stays g c =
    (made_same g.B.Width.whole c.args.budget c.loop-cost.left c.args.self.now c.loop-cost.self c.narrow_within.new.self (c.in_ok-narrow_within.ensures.none c.in-Settled.is).0 c.loop-cost.invariant).stays

pub returns-in-Costly-clause-stays : goal.returns-in-Costly-clause-stays
returns-in-Costly-clause-stays g c =
    (made_same g.B.Width.whole c.args.budget c.loop-cost.left c.args.self.now c.loop-cost.self c.narrow_within.new.self (c.in_ok-narrow_within.ensures.costly c.in-Costly.is).0 c.loop-cost.invariant).stays
