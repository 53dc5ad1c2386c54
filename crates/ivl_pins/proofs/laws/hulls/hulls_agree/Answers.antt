use Rattle.ivl_pins.proofs.laws.hulls.hulls_agree.Goals as goal

pub returns : goal.returns
returns g c = c.eq.ensures.members.1 (c.meet_of_intervals.ensures.agrees c.args.a.now c.args.b.now c.hull.result c.hull-2.result c.hull.ensures c.hull-2.ensures)
