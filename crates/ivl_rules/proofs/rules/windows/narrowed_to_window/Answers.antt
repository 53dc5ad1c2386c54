use Rattle.ivl_rules.proofs.Clipping.{some_lost}
use Rattle.ivl_rules.proofs.rules.windows.narrowed_to_window.Goals as goal

pub returns : goal.returns
returns g c = some_lost g.B.Width.whole c.args.x.now c.in_ok-intersection.field-0 _ _ c.in_whole.ensures c.if-lies_in.false c.lies_in.ensures c.in_ok-intersection.ensures.members
