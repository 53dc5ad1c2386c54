use Rattle.ivl_places.proofs.Finding.{found, not_found}
use Rattle.intervallum.proofs.interval_set.contains.IntervalSetContains.contains.Goals as goal

pub returns-in-In : goal.returns-in-In
returns-in-In g c = found _ _ _ _ c.new-runs.ensures.runs c.in-In.ensures.place

pub returns-in-Gap : goal.returns-in-Gap
returns-in-Gap g c = not_found _ _ _ c.new-runs.ensures.runs c.in-Gap.ensures.place.0
