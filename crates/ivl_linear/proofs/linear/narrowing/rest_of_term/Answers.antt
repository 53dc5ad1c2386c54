use Rattle.std.proofs.Common.{◌≡◌, ℤ, pos, subst}
use Rattle.std.specs.Prelude.{None, Some}
use Rattle.ivl_laws.specs.Families.{set_at}
use Rattle.ivl_linear.specs.declared.linear.Term.{Term}
use Rattle.ivl_linear.specs.Linear.{HasLinearPointAt, term_at}
use Rattle.ivl_linear.specs.Ends.{AreEndsOf}
use Rattle.ivl_linear.proofs.Collecting.{below_names}
use Rattle.ivl_linear.proofs.Rests.{kept_same, none_has_point}
use Rattle.ivl_linear.proofs.Support.{read}
use Rattle.ivl_linear.proofs.linear.narrowing.rest_of_term.Goals as goal

pub returns-in-None : goal.returns-in-None
returns-in-None g c =
    let terms = c.args.terms.now in let d : Term = record { coefficient = pos 0; variable = 0 } in let t = term_at terms c.args.k in let domains = c.args.domains.now in let sets = set_at c.args.domains.now in
    let none : AreEndsOf terms sets None = subst (AreEndsOf terms sets) c.in-None.is c.requires.ends in
    let e = read domains t.variable c.index-domains-term.result (below_names _ terms c.args.relation c.requires.present c.args.k d c.requires.known) c.index-domains-term.is in
    kept_same domains t.variable _ (λ _. ⊥) (HasLinearPointAt terms c.args.relation sets t.variable) e (λ v m. ((λ n. absurd n), (λ s. none_has_point terms c.args.relation sets t.variable v none s))) c.rest_of_none.result c.rest_of_none.ensures
