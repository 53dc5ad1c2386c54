use Rattle.ivl_laws.proofs.Intervals.{count_is_width_of}
use Rattle.ivl_interval_pins.proofs.intervals.interval_size.Goals as goal

pub returns : goal.returns
returns g c = count_is_width_of c.args.a.now _ c.size_by_bound.ensures
