use Rattle.ivl_search.specs.Best.{IsInPart}
use Rattle.ivl_search.proofs.Cuts.{cut_in_range}
use Rattle.ivl_search.proofs.search.steps.keep_part.Goals as goal

pub returns-in-Ok-clause-cut : goal.returns-in-Ok-clause-cut
returns-in-Ok-clause-cut g c =
    cut_in_range g.B.Width.whole c.args.network.now.domains c.restrict_to_interval-cut.new.self.domains c.args.variable _ (IsInPart c.args.wanted c.args.part (g.B.Width.value c.args.value))
    c.domains.ensures.runs c.part_of-allowed.ensures c.in-Ok.ensures.cut
