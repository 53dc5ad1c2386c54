use Rattle.std.proofs.Common.{◌≡◌, ◌↔◌, ◌<◌, ◌∙◌, length, subst}
use Rattle.std.specs.Prelude.{Err, Some}
use Rattle.std.proofs.lemmas.List.Elements.{All-weaker}
use Rattle.std.proofs.lemmas.Result.{IfOk-weaker}
use Rattle.ivl_search.specs.declared.search.SearchFault.TheVariants.{Variable}
use Rattle.ivl_search.specs.Points.{Solves, SolvesRules}
use Rattle.ivl_search.proofs.Sums.{sums_different, sums_enough, sums_solve, sums_unknown}
use Rattle.ivl_search.proofs.search.solutions.Goals as goal

pub solutions-requires : goal.solutions-requires
solutions-requires g c = sums_different c.args.constraints.now c.deref.result.now (c.deref.ensures.value ∙ c.in_ok-rules.ensures) c.requires

pub returns-clause-unknown : goal.returns-clause-unknown
returns-clause-unknown g c = λ i.
    subst (λ o. (c.solutions.result ≡ Err (Variable i)) ↔ (o ≡ Some i)) (sums_unknown c.args.constraints.now c.deref.result.now (length c.args.domains.now) (c.deref.ensures.value ∙ c.in_ok-rules.ensures)) (c.solutions.ensures.unknown i)

pub returns-clause-sound : goal.returns-clause-sound
returns-clause-sound g c =
    IfOk-weaker c.solutions.result _ _
    (λ found. All-weaker (SolvesRules c.deref.result.now c.args.domains.now) (Solves c.args.constraints.now c.args.domains.now) (λ point s. (sums_solve c.args.constraints.now c.deref.result.now c.args.domains.now (c.deref.ensures.value ∙ c.in_ok-rules.ensures) point).1 s) _)
    c.solutions.ensures.sound

pub returns-clause-complete : goal.returns-clause-complete
returns-clause-complete g c =
    IfOk-weaker c.solutions.result _ _
    (λ found told e point s. told e point ((sums_solve c.args.constraints.now c.deref.result.now c.args.domains.now (c.deref.ensures.value ∙ c.in_ok-rules.ensures) point).0 s))
    c.solutions.ensures.complete

pub returns-clause-enough : goal.returns-clause-enough
returns-clause-enough g c =
    IfOk-weaker c.solutions.result _ _
    (λ found told e. subst (λ n. c.args.limits.nodes < n) (sums_enough g.B.Width.whole c.args.constraints.now c.deref.result.now c.args.domains.now (c.deref.ensures.value ∙ c.in_ok-rules.ensures)) (told e))
    c.solutions.ensures.enough
