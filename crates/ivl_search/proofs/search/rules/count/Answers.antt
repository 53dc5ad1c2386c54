use Rattle.std.proofs.Common.{◌↔◌, ◌<◌, ◌+◌, ◌-◌, ◌*◌, ◌/◌, List, arith, length, max, subst, sym}
use Rattle.std.specs.Prelude.{ℤ}
use Rattle.ivl_search.specs.Budget.{points_of}
use Rattle.ivl_search.specs.Points.{SolvesRules}
use Rattle.ivl_search.proofs.Rooms.{enough_more}
use Rattle.ivl_search.proofs.Sums.{finds_same}
use Rattle.ivl_search.proofs.search.rules.count.Goals as goal

pub returns-clause-counted : goal.returns-clause-counted
returns-clause-counted g c =
    let f = c.in_ok-end.ensures.finds in
    let net = c.in_ok-network.network in
    let count = f.3 in (
      f.0,
      omega (arith, count),
      finds_same (SolvesRules net.rules net.domains) (SolvesRules c.args.rules.now c.args.domains.now) f.0 c.in_ok-end.end
          (λ point. subst (λ D. SolvesRules c.args.rules.now c.args.domains.now point ↔ SolvesRules net.rules D point) (sym c.in_ok-network.ensures.domains) (c.in_ok-network.ensures.solutions point))
          f.1,
    )

pub returns-clause-enough : goal.returns-clause-enough
returns-clause-enough g c = λ e.
    let net = c.in_ok-network.network in
    let points = λ (D : List (List (ℤ × ℤ))). 2 * max 1 (points_of g.B.Width.whole D) - 1 in
    enough_more (length net.rules) (length c.args.rules.now) (points c.args.domains.now) c.args.limits.nodes c.in_ok-network.ensures.no_more
    (subst (λ D. c.args.limits.nodes < points D * (length net.rules / 500 + 1)) c.in_ok-network.ensures.domains (c.in_ok-end.ensures.enough e).1)
