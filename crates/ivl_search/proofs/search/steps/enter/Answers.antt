use Rattle.std.proofs.Common.{ap, subst}
use Rattle.ivl_laws.specs.Families.{set_at}
use Rattle.ivl_network.specs.Network.{IsCutAt}
use Rattle.ivl_search.specs.Best.{IsAsGood}
use Rattle.ivl_search.proofs.search.steps.enter.Goals as goal

pub returns-clause-cut : goal.returns-clause-cut
returns-clause-cut g c =
    subst (λ D. IsCutAt c.args.variable (IsAsGood c.args.wanted (g.B.Width.value c.args.value)) (set_at D) (set_at c.keep_part.new.network.domains)) (ap (λ n. n.domains) c.in_ok-mark.ensures.marked)
    c.in_ok-keep_part.ensures.cut
