use Rattle.std.proofs.Common.{◌∙◌, ◌+◌, ◌-◌, ◌/◌, ◌^◌, [], ap, get_or, length, min, sym}
use Rattle.ivl_store.specs.declared.store.constraint.Constraint.{Constraint}
use Rattle.ivl_store.specs.Costs.{cost_of}
use Rattle.ivl_network.proofs.Costs.{cost_of_pair, cost_of_three}
use Rattle.ivl_network.proofs.network.narrowing.cost_at.Goals as goal

pub returns-then-c-clause-cost : goal.returns-then-c-clause-cost
returns-then-c-clause-cost g c = λ rule e.
    let sets = c.args.store.now in
    cost_of_pair rule sets _ (sym (ap (λ (p : Constraint). p.y) e) ∙ c.if-c.true ∙ ap (λ (p : Constraint). p.z) e)
    (c.cost_of_two.ensures ∙ ap (λ (p : Constraint). min (length (get_or sets p.x []) + length (get_or sets p.y [])) (2 ^ 64 - 1) / 256 + 1) e)

pub returns-clause-cost : goal.returns-clause-cost
returns-clause-cost g c = λ rule e.
    cost_of_three rule c.args.store.now _ (λ f. c.if-c.false (ap (λ (p : Constraint). p.y) e ∙ f ∙ sym (ap (λ (p : Constraint). p.z) e)))
    (c.cost_of.ensures.cost ∙ ap (λ (p : Constraint). cost_of p c.args.store.now) e)
