use Rattle.std.proofs.Common.{◌+◌, ◌*◌, inl, inr, length, refl, subst}
use Rattle.std.specs.Prelude.{All}
use Rattle.ivl_laws.specs.Families.{set_at}
use Rattle.ivl_store.specs.Measure.{total}
use Rattle.ivl_network.specs.Families.{IsFixedBy}
use Rattle.ivl_network.specs.Network.{work_of_rules}
use Rattle.ivl_network.specs.Queue.{unsettled_count}
use Rattle.ivl_network.proofs.Budgets.{fewer_or, made_before, settled_or, spent_or, with_stop}
use Rattle.ivl_network.proofs.Narrowings.{narrowings_greatest, narrowings_keep, narrowings_solve}
use Rattle.ivl_network.proofs.network.Network.settle_unless_empty.Goals as goal

pub returns-in_err-narrow_up_to-clause-keeps : goal.returns-in_err-narrow_up_to-clause-keeps
returns-in_err-narrow_up_to-clause-keeps g c =
    let h = c.in_err-narrow_up_to.ensures.made_before in
    narrowings_keep c.args.self.now.rules h.0 c.args.self.now.domains c.narrow_up_to.new.self.domains h.1.narrowings

pub returns-in_err-narrow_up_to-clause-solutions : goal.returns-in_err-narrow_up_to-clause-solutions
returns-in_err-narrow_up_to-clause-solutions g c =
    let h = c.in_err-narrow_up_to.ensures.made_before in
    narrowings_solve c.args.self.now.rules h.0 c.args.self.now.domains c.narrow_up_to.new.self.domains h.1.narrowings

pub returns-in_err-narrow_up_to-clause-made_before : goal.returns-in_err-narrow_up_to-clause-made_before
returns-in_err-narrow_up_to-clause-made_before g c =
    made_before c.from_residual.result g.B.Width.whole c.args.budget c.args.self.now c.narrow_up_to.new.self c.in_err-narrow_up_to.ensures.made_before

pub returns-clause-keeps : goal.returns-clause-keeps
returns-clause-keeps g c =
    let h = c.in_ok-narrow_up_to.ensures.made in
    narrowings_keep c.args.self.now.rules h.0 c.args.self.now.domains c.narrow_up_to.new.self.domains h.1.narrowings

pub returns-clause-solutions : goal.returns-clause-solutions
returns-clause-solutions g c =
    let h = c.in_ok-narrow_up_to.ensures.made in
    narrowings_solve c.args.self.now.rules h.0 c.args.self.now.domains c.narrow_up_to.new.self.domains h.1.narrowings

pub returns-clause-greatest : goal.returns-clause-greatest
returns-clause-greatest g c = λ all.
    let h = c.in_ok-narrow_up_to.ensures.made in
    narrowings_greatest c.args.self.now.rules h.0 c.args.self.now.domains c.narrow_up_to.new.self.domains h.1.narrowings
    (subst (λ cs. All (IsFixedBy (set_at c.narrow_up_to.new.self.domains)) cs) c.narrow_up_to.ensures.rules (c.reached.ensures.all all))

pub returns-clause-made : goal.returns-clause-made
returns-clause-made g c =
    let h = c.in_ok-narrow_up_to.ensures.made in
    (h.0, h.2, (λ left. with_stop (spent_or (unsettled_count c.narrow_up_to.new.self.settled) h.0 c.args.budget h.3 (λ none. let all = c.reached.ensures.exactly.1 none in absurd (cc)))), h.1.narrowings)

pub returns-clause-fewer : goal.returns-clause-fewer
returns-clause-fewer g c = λ left.
    let h = c.in_ok-narrow_up_to.ensures.made in
    (with_stop (fewer_or h.0 c.args.budget (work_of_rules g.B.Width.whole c.narrow_up_to.new.self) (work_of_rules g.B.Width.whole c.args.self.now) h.1.fewer
    (spent_or (unsettled_count c.narrow_up_to.new.self.settled) h.0 c.args.budget h.3 (λ none. let all = c.reached.ensures.exactly.1 none in absurd (cc)))))

pub returns-clause-enough : goal.returns-clause-enough
returns-clause-enough g c = λ enough.
    let h = c.in_ok-narrow_up_to.ensures.made in
    let new = c.narrow_up_to.new.self in
    elim (with_stop (settled_or (total g.B.Width.whole new.domains * (length new.rules + 1)) (unsettled_count new.settled) h.0 c.args.budget (work_of_rules g.B.Width.whole c.args.self.now) h.3 h.1.fewer enough)) [
      | inl none ↦ inl (c.reached.ensures.exactly.1 none)
      | inr empty ↦ inr empty
    ]

pub returns-clause-emptied : goal.returns-clause-emptied
returns-clause-emptied g c = c.narrow_up_to.ensures.emptied refl

pub returns-in_err-narrow_up_to-clause-emptied : goal.returns-in_err-narrow_up_to-clause-emptied
returns-in_err-narrow_up_to-clause-emptied g c = c.narrow_up_to.ensures.emptied refl
