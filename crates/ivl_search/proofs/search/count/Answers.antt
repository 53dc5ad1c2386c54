use Rattle.std.proofs.Common.{◌≡◌, ◌↔◌, ◌<◌, ◌∙◌, length, subst}
use Rattle.std.specs.Prelude.{Err, Some}
use Rattle.std.proofs.lemmas.Result.{IfOk-weaker}
use Rattle.ivl_search.specs.declared.search.SearchFault.TheVariants.{Variable}
use Rattle.ivl_search.specs.Points.{Solves, SolvesRules}
use Rattle.ivl_search.proofs.Sums.{finds_same, sums_different, sums_enough, sums_solve, sums_unknown}
use Rattle.ivl_search.proofs.search.count.Goals as goal

pub count-requires : goal.count-requires
count-requires g c = sums_different c.args.constraints.now c.deref.result.now (c.deref.ensures.value ∙ c.in_ok-rules.ensures) c.requires

pub returns-clause-unknown : goal.returns-clause-unknown
returns-clause-unknown g c = λ i.
    subst (λ o. (c.count.result ≡ Err (Variable i)) ↔ (o ≡ Some i)) (sums_unknown c.args.constraints.now c.deref.result.now (length c.args.domains.now) (c.deref.ensures.value ∙ c.in_ok-rules.ensures)) (c.count.ensures.unknown i)

pub returns-clause-counted : goal.returns-clause-counted
returns-clause-counted g c =
    IfOk-weaker c.count.result _ _
    (λ r told. (told.0, told.1, finds_same (SolvesRules c.deref.result.now c.args.domains.now) (Solves c.args.constraints.now c.args.domains.now) told.0 r.1 (sums_solve c.args.constraints.now c.deref.result.now c.args.domains.now (c.deref.ensures.value ∙ c.in_ok-rules.ensures)) told.2))
    c.count.ensures.counted

pub returns-clause-enough : goal.returns-clause-enough
returns-clause-enough g c =
    IfOk-weaker c.count.result _ _
    (λ found told e. subst (λ n. c.args.limits.nodes < n) (sums_enough g.B.Width.whole c.args.constraints.now c.deref.result.now c.args.domains.now (c.deref.ensures.value ∙ c.in_ok-rules.ensures)) (told e))
    c.count.ensures.enough
