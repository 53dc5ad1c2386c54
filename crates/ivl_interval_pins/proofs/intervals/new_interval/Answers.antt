use Rattle.ivl_laws.proofs.Intervals.{crossed_if_same}
use Rattle.ivl_interval_pins.proofs.intervals.new_interval.Goals as goal

pub returns-clause-crossed : goal.returns-clause-crossed
returns-clause-crossed g c =
    let same = c.new_by_bound.ensures in
    λ h. crossed_if_same _ c.new_by_bound.result h (λ z. ((same z).1, (same z).0))
