use Rattle.std.proofs.Common.{◌-◌, ◌<◌, ◌∙◌, arith, get_or, inr, length, subst}
use Rattle.std.proofs.lemmas.Bool.{not-false}
use Rattle.std.proofs.lemmas.List.{get_or_default}
use Rattle.ivl_network.specs.Trail.{KeepsRuleAt}
use Rattle.ivl_network.proofs.network.trail.is_unkept.Goals as goal

pub returns-clause-kept : goal.returns-clause-kept
returns-clause-kept g c = λ t.
    let place = get_or c.args.places.now c.args.variable 0 in
    let low = c.if-place-marks.false in let high = c.if-place-trail.false in
    let lt : place - 1 < length c.args.trail.now = omega (arith, low, high) in
    inr (
      place - 1,
      omega (arith, low),
      lt,
      (λ d. subst (KeepsRuleAt c.args.variable) (c.index-trail-place.is ∙ get_or_default c.args.trail.now (place - 1) c.index-trail-place.result d lt) (c.keeps.ensures (not-false c.keeps.result t))),
    )
