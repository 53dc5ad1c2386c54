use Rattle.std.proofs.Common.{arith, subst, List}
use Rattle.std.proofs.lemmas.Int.{ints}
use Rattle.std.specs.Prelude.{ℤ}
use Rattle.ivl_laws.specs.Runs.{Covers}
use Rattle.ivl_within.proofs.Lists.{entry_seen}
use Rattle.ivl_network.specs.Settled.{HasTwo}
use Rattle.ivl_network.proofs.network.narrowing.has_two.Goals as goal

pub returns : goal.returns
returns g c = λ _.
    let ln = c.number.ensures in let un = c.number-else-is_empty.ensures in let ne = c.if-number.false in
    let least = c.lower.ensures.least _ c.upper.ensures.member in
    subst (λ (L : List (ℤ × ℤ)). HasTwo (Covers L)) (entry_seen _ _ _ _ c.domains.ensures.same c.requires c.index-domains-variable.is)
    (_, _, c.lower.ensures.member, c.upper.ensures.member, omega (arith, ints))
