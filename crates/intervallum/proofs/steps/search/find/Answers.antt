use Rattle.ivl_places.proofs.Neighbours.{is_beside}
use Rattle.intervallum.proofs.steps.search.find.Goals as goal

pub returns-clause-beside : goal.returns-clause-beside
returns-clause-beside g c = is_beside _ _ _ c.len-count.ensures.runs.maximal c.find_between.ensures.place
