use Rattle.ivl_pins.proofs.Algebra.{counts_add_up}
use Rattle.ivl_pins.proofs.laws.algebra.sizes_add_up.Goals as goal

pub returns : goal.returns
returns g c =
    counts_add_up _ _ _ _ _ _ _ _ c.in_ok-all.ensures.members c.in_ok-common.ensures.members c.size-3.ensures c.size-4.ensures c.size.ensures c.size-2.ensures
