use Rattle.std.proofs.Common.{◌∙◌, ◌++◌, ◌∷◌, [], ℤ, ap, arith, sym}
use Rattle.std.proofs.Math.Bool.{true≢false}
use Rattle.std.proofs.lemmas.Int.{clamps, ints}
use Rattle.ivl_laws.proofs.Orders.{min_number}
use Rattle.ivl_within.proofs.within.fronts.push_stretch.Goals as goal

pub new-requires : goal.new-requires
new-requires g c =
    let e = min_number g.met.B.Width.ordered _ _ _ c.min.ensures in
    (c.requires.in_range.0, omega (arith, ints, clamps, e, c.requires.in_range.1))

pub returns-then-not-front-clause-met : goal.returns-then-not-front-clause-met
returns-then-not-front-clause-met g c = λ t. absurd (true≢false (sym t ∙ c.if-not-front.true))

pub returns-clause-met : goal.returns-clause-met
returns-clause-met g c = λ _.
    c.in_ok-push.ensures.items ∙ ap (λ (p : ℤ × ℤ). c.args.entries.now.items ++ p ∷ []) (c.new.ensures.value ∙ ap (λ (z : ℤ). (g.B.Width.value c.args.from, z)) (min_number g.met.B.Width.ordered _ _ _ c.min.ensures))

pub returns-clause-none : goal.returns-clause-none
returns-clause-none g c = λ e. absurd (true≢false (sym c.if-not-front.false ∙ e))
