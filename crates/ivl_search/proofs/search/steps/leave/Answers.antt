use Rattle.std.proofs.Common.{ap, length, subst, ◌∙◌}
use Rattle.ivl_laws.specs.Families.{set_at}
use Rattle.ivl_network.specs.Network.{IsCutAt}
use Rattle.ivl_search.specs.Best.{IsBetter}
use Rattle.ivl_search.proofs.search.steps.leave.Goals as goal

pub returns-clause-cut : goal.returns-clause-cut
returns-clause-cut g c = λ d.
    let past = c.undo_to.ensures.undone (c.undo_to.ensures.told.1 c.requires.known) d in (
      c.in_ok-keep_part.ensures.rules ∙ past.1,
      c.in_ok-keep_part.ensures.kept_count ∙ ap length past.0,
      subst (λ D. IsCutAt c.args.cut.variable (λ v. IsBetter c.args.wanted v (g.B.Width.value c.args.cut.value)) (set_at D) (set_at c.keep_part.new.network.domains)) past.0
          c.in_ok-keep_part.ensures.cut,
    )
