use Rattle.ivl_places.proofs.Finding.{each_is_filled}
use Rattle.intervallum.proofs.interval_set.IntervalSet.iter.Goals as goal

pub returns-clause-filled : goal.returns-clause-filled
returns-clause-filled g c = each_is_filled _ c.args.self.now c.self.view_is c.self.invariant.0.maximal
