use Rattle.ivl_laws.proofs.Ranges.{none_is_nil}
use Rattle.ivl_pins.proofs.sets.set_is_empty.Goals as goal

pub returns : goal.returns
returns g c =
    let none = none_is_nil c.args.set.now c.in_whole.ensures.maximal in
    let told = c.is_empty_by_bound.ensures in
    (λ t. none.0 (told.0 t), λ e. told.1 (none.1 e))
