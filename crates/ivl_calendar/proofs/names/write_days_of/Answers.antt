use Rattle.std.proofs.lemmas.Result.{on_ok_weaker}
use Rattle.ivl_calendar.specs.Rooms.{rooms_of}
use Rattle.ivl_calendar.proofs.Listing.{of_none}
use Rattle.ivl_calendar.proofs.names.write_days_of.Goals as goal

pub returns-then-is_none : goal.returns-then-is_none
returns-then-is_none g c = on_ok_weaker c.write_line.result
    (λ written. of_none c.args.who.now (rooms_of c.args.rooms.now) c.in_ok-is_none.is_none _ _ _ c.in_ok-is_none.ensures c.if-is_none.true written)
    c.write_line.ensures
