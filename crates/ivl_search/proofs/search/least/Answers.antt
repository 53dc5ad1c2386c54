use Rattle.std.proofs.Common.{◌≡◌, ◌↔◌, ◌<◌, ◌∙◌, length, map, subst}
use Rattle.std.specs.Prelude.{◌<ℤ◌, Err, Some}
use Rattle.std.proofs.lemmas.Option.{IfSome_then}
use Rattle.std.proofs.lemmas.Result.{IfOk-weaker}
use Rattle.ivl_search.specs.declared.search.SearchFault.TheVariants.{Variable}
use Rattle.ivl_search.specs.Points.{Solves, SolvesRules}
use Rattle.ivl_search.proofs.Better.{improves_within}
use Rattle.ivl_search.proofs.Sums.{none_same, sums_different, sums_for_best, sums_solve, sums_unknown_or}
use Rattle.ivl_search.proofs.search.least.Goals as goal

pub least-requires : goal.least-requires
least-requires g c = sums_different c.args.constraints.now c.deref.result.now (c.deref.ensures.value ∙ c.in_ok-rules.ensures) c.requires

pub returns-clause-unknown : goal.returns-clause-unknown
returns-clause-unknown g c = λ i.
    subst (λ o. (c.least.result ≡ Err (Variable i)) ↔ (o ≡ Some i)) (sums_unknown_or c.args.variable c.args.constraints.now c.deref.result.now (length c.args.domains.now) (c.deref.ensures.value ∙ c.in_ok-rules.ensures)) (c.least.ensures.unknown i)

pub returns-clause-sound : goal.returns-clause-sound
returns-clause-sound g c =
    IfOk-weaker c.least.result _ _
    (λ best told. IfSome_then best.point told (λ point s. (sums_solve c.args.constraints.now c.deref.result.now c.args.domains.now (c.deref.ensures.value ∙ c.in_ok-rules.ensures) (map g.B.Width.value point.items)).1 s))
    c.least.ensures.sound

pub returns-clause-best : goal.returns-clause-best
returns-clause-best g c =
    IfOk-weaker c.least.result _ _
    (λ best told e. IfSome_then best.point (told e) (λ point least other s. least other ((sums_solve c.args.constraints.now c.deref.result.now c.args.domains.now (c.deref.ensures.value ∙ c.in_ok-rules.ensures) other).0 s)))
    c.least.ensures.best

pub returns-clause-none : goal.returns-clause-none
returns-clause-none g c =
    IfOk-weaker c.least.result _ _
    (λ best told e. none_same best.point _ _ (λ none point s. none point ((sums_solve c.args.constraints.now c.deref.result.now c.args.domains.now (c.deref.ensures.value ∙ c.in_ok-rules.ensures) point).0 s)) (told e))
    c.least.ensures.none

pub returns-clause-full : goal.returns-clause-full
returns-clause-full g c =
    IfOk-weaker c.least.result _ _
    (λ best told e. improves_within (λ old new. new <ℤ old) c.args.variable (SolvesRules c.deref.result.now c.args.domains.now) (Solves c.args.constraints.now c.args.domains.now)
    (λ point s. (sums_solve c.args.constraints.now c.deref.result.now c.args.domains.now (c.deref.ensures.value ∙ c.in_ok-rules.ensures) point).1 s) c.args.limits.solutions _ (told e))
    c.least.ensures.full

pub returns-clause-enough : goal.returns-clause-enough
returns-clause-enough g c =
    IfOk-weaker c.least.result _ _
    (λ best told e. subst (λ n. c.args.limits.nodes < n) (sums_for_best g.B.Width.whole c.args.constraints.now c.deref.result.now c.args.domains.now (c.deref.ensures.value ∙ c.in_ok-rules.ensures)) (told e))
    c.least.ensures.enough
