use Rattle.std.proofs.Common.{◌<◌, ◌+◌, ◌*◌, ◌/◌, List, length, max, subst, sym, ◌∙◌}
use Rattle.std.specs.Prelude.{ℤ}
use Rattle.ivl_search.specs.Best.{IsBetter}
use Rattle.ivl_search.specs.Budget.{points_of}
use Rattle.ivl_search.specs.Points.{SolvesRules}
use Rattle.ivl_search.proofs.Better.{improves_within}
use Rattle.ivl_search.proofs.Rooms.{best_more}
use Rattle.ivl_search.proofs.Popping.{known_variable}
use Rattle.ivl_search.proofs.search.optimum.best_at.Goals as goal

pub best_of-requires-clause-known : goal.best_of-requires-clause-known
best_of-requires-clause-known g c =
    subst (λ D. c.args.variable < length D) (sym c.in_ok-network.ensures.domains)
    (known_variable c.args.variable (length c.args.domains.now) c.args.rules.now (sym c.first_unknown_or.ensures ∙ c.in_default.is))

pub returns-clause-enough : goal.returns-clause-enough
returns-clause-enough g c = λ e.
    let net = c.in_ok-network.network in
    best_more (length net.rules) (length c.args.rules.now) (2 * max 1 (points_of g.B.Width.whole c.args.domains.now)) c.args.limits.nodes c.in_ok-network.ensures.no_more
    (subst (λ (D : List (List (ℤ × ℤ))). c.args.limits.nodes < 2 * max 1 (points_of g.B.Width.whole D) * (length net.rules / 500 + 1) + 1) c.in_ok-network.ensures.domains (c.in_ok-best.ensures.enough e))

pub returns-clause-full : goal.returns-clause-full
returns-clause-full g c = λ e.
    let net = c.in_ok-network.network in
    improves_within (λ old new. IsBetter c.args.wanted old new) c.args.variable (SolvesRules net.rules net.domains) (SolvesRules c.args.rules.now c.args.domains.now)
    (λ point s. (c.in_ok-network.ensures.solutions point).1 (subst (λ (D : List (List (ℤ × ℤ))). SolvesRules net.rules D point) c.in_ok-network.ensures.domains s))
    c.args.limits.solutions _ (c.in_ok-best.ensures.full e)
