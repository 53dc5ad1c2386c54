use Rattle.std.proofs.lemmas.Result.{on_ok_weaker}
use Rattle.ivl_calendar.specs.Rooms.{rooms_of}
use Rattle.ivl_calendar.proofs.Bookings.{rooms_none, rooms_some}
use Rattle.ivl_calendar.proofs.shown.write_rooms.Goals as goal

pub returns-then-is_none : goal.returns-then-is_none
returns-then-is_none g c = on_ok_weaker c.write_line.result
    (λ line. rooms_none (rooms_of c.args.rooms.now) c.in_ok-is_none.is_none _ _ _ c.in_ok-is_none.ensures.none c.if-is_none.true c.in_ok-is_none.ensures.text line)
    c.write_line.ensures

pub returns : goal.returns
returns g c = on_ok_weaker c.write_all.result
    (λ newline. rooms_some (rooms_of c.args.rooms.now) c.in_ok-is_none.is_none _ _ _ c.in_ok-is_none.ensures.none c.if-is_none.false c.in_ok-is_none.ensures.text newline)
    c.write_all.ensures.bytes
