use Rattle.ivl_laws.specs.Sets.{IsBetween}
use Rattle.ivl_laws.specs.Runs.{Covers}
use Rattle.ivl_laws.proofs.Counts.{IsCountOf-same}
use Rattle.ivl_places.proofs.WholeRuns.{met_have_all}
use Rattle.intervallum.proofs.interval_set.IntervalSet.size_within.Goals as goal

pub returns : goal.returns
returns g c =
    IsCountOf-same _ _ _ (met_have_all (IsBetween c.args.window.now) (Covers c.args.self.now) c.runs_within.result.now c.runs_within.ensures.members)
    c.size_of_part.ensures
