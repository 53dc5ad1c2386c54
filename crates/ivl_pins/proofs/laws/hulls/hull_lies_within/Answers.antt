use Rattle.ivl_pins.proofs.laws.hulls.hull_lies_within.Goals as goal

pub returns : goal.returns
returns g c = c.is_subset.ensures.1 (c.meet_of_intervals.ensures.least c.args.a.now c.args.b.now c.hull.result c.args.c.now c.hull.ensures c.requires.left c.requires.right)
