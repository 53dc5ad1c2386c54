use Rattle.ivl_store_pins.proofs.network.settled_rules_stay.Goals as goal

pub returns : goal.returns
returns g c = c.settle_within.ensures.stays.stays
