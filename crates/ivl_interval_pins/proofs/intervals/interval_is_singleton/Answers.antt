use Rattle.ivl_interval.proofs.Pairs.{only_by_bounds}
use Rattle.ivl_interval_pins.proofs.intervals.interval_is_singleton.Goals as goal

pub returns : goal.returns
returns g c =
    let one = only_by_bounds c.args.a.now in
    let told = c.is_singleton_by_bound.ensures in
    (λ t. one.0 (told.0 t), λ e. told.1 (one.1 e))
