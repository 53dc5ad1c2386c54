use Rattle.ivl_rules.proofs.Clipping.{met_left, some_lost}
use Rattle.ivl_rules.proofs.rules.windows.narrowed_to_window_in.Goals as goal

pub returns-then-met-gt-RUNS : goal.returns-then-met-gt-RUNS
returns-then-met-gt-RUNS g c = some_lost g.B.Width.whole c.args.x.now c.in_ok-intersection.field-0 _ _ c.in_whole.ensures c.if-lies_in.false c.lies_in.ensures c.in_ok-intersection.ensures.members

pub returns : goal.returns
returns g c =
    some_lost g.B.Width.whole c.args.x.now c.in_ok-set_of_clipped.field-0 _ _ c.in_whole.ensures c.if-lies_in.false c.lies_in.ensures
    (met_left c.args.x.now _ _ _ c.runs_within-met.ensures.members c.in_ok-set_of_clipped.ensures)
