use Rattle.std.proofs.Common.{◌≡◌, ◌↔◌, ℤ, arith, subst}
use Rattle.std.proofs.lemmas.Int.{ints}
use Rattle.std.proofs.lemmas.Result.{IfOk-weaker}
use Rattle.std.specs.Prelude.{None, Some}
use Rattle.ivl_laws.specs.Families.{set_at}
use Rattle.ivl_laws.specs.Sets.{IsBetween}
use Rattle.ivl_linear.specs.declared.linear.Relation.TheVariants.{Tells}
use Rattle.ivl_linear.specs.Linear.{HasLinearPointAt}
use Rattle.ivl_linear.specs.Ends.{AreEndsOf, AreSumEnds, IsRestOf}
use Rattle.ivl_linear.proofs.Casts.{small_sum}
use Rattle.ivl_linear.proofs.Rests.{kept_same, none_has_point}
use Rattle.ivl_linear.proofs.Support.{read}
use Rattle.ivl_linear.proofs.Telling.{told_self}
use Rattle.ivl_linear.proofs.linear.narrowing.rest_of_teller.Goals as goal
use mir.Syntax.{w64}
use mir.Val.{to_z, of_z}

pub returns-in-Some : goal.returns-in-Some
returns-in-Some g c = λ terms fresh known.
    let x = c.args.variable in let bound = c.args.bound in let domains = c.args.domains.now in let sets = set_at c.args.domains.now in
    let ends = c.in-Some.ends in
    let s : AreSumEnds terms sets ends = subst (AreEndsOf terms sets) c.in-Some.is known in
    let e = read domains x c.index-domains-variable.result c.requires.present c.index-domains-variable.is in
    let eb : to_z w64 (of_z w64 bound) ≡ bound = omega (arith, ints) in
    let el = small_sum ends.least s.small_least in let eg = small_sum ends.greatest s.small_greatest in
    let window = c.answers_of.result in
    let same : (v : ℤ) → sets x v → IsBetween window v ↔ HasLinearPointAt terms (Tells x bound) sets x v = (λ v m.
    let told = told_self terms x bound sets fresh ends.least ends.greatest s.least s.greatest v m in
    let w = rw (eb, el, eg) at (c.answers_of.ensures v) in ((λ b. told.1 (w.0 b)), (λ p. w.1 (told.0 p)))) in
    IfOk-weaker c.rest_within.result (IsRestOf c.index-domains-variable.result (IsBetween window)) _ (λ rest h. kept_same domains x _ (IsBetween window) _ e same rest h) c.rest_within.ensures

pub returns-in-None : goal.returns-in-None
returns-in-None g c = λ terms fresh known.
    let x = c.args.variable in let bound = c.args.bound in let domains = c.args.domains.now in let sets = set_at c.args.domains.now in
    let none : AreEndsOf terms sets None = subst (AreEndsOf terms sets) c.in-None.is known in
    let e = read domains x c.index-domains-variable.result c.requires.present c.index-domains-variable.is in
    kept_same domains x _ (λ _. ⊥) (HasLinearPointAt terms (Tells x bound) sets x) e (λ v m. ((λ n. absurd n), (λ s. none_has_point terms (Tells x bound) sets x v none s))) c.rest_of_none.result c.rest_of_none.ensures
