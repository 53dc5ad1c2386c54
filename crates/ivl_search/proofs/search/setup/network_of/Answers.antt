use Rattle.std.proofs.Common.{◌≡◌, ◌⊎◌, [], arith, length}
use Rattle.std.specs.Prelude.{◌↔◌, Contains}
use Rattle.std.proofs.Common.{◌∙◌, subst, ap}
use Rattle.ivl_rules.specs.declared.rules.Rule.{Rule}
use Rattle.ivl_search.proofs.Requiring.{required_solves}
use Rattle.ivl_search.proofs.search.setup.network_of.Goals as goal

pub returns-clause-solutions : goal.returns-clause-solutions
returns-clause-solutions g c =
    let start : c.add_variables.new.network.rules ≡ [] = c.add_variables.ensures.rules ∙ ap (λ n. n.rules) (c.reserve.ensures.same ∙ c.new-network.ensures) in
    required_solves c.args.rules.now c.require_all.new.network.rules c.args.domains.now
    (subst (λ cs. (d : Rule) → Contains c.require_all.new.network.rules d ↔ (Contains cs d ⊎ Contains c.args.rules.now d)) start c.in_ok-require_all.ensures.required)

pub returns-clause-no_more : goal.returns-clause-no_more
returns-clause-no_more g c =
    let start : c.add_variables.new.network.rules ≡ [] = c.add_variables.ensures.rules ∙ ap (λ n. n.rules) (c.reserve.ensures.same ∙ c.new-network.ensures) in
    let e = ap length start in
    let h = c.in_ok-require_all.ensures.no_more in
    omega (arith, e, h)
