use Rattle.std.proofs.Common.{◌∙◌, sym}
use Rattle.std.proofs.lemmas.Result.{on_ok_weaker}
use Rattle.ivl_calendar.specs.Rooms.{named_of}
use Rattle.ivl_calendar.proofs.Answering.{no_memory_shown, room_shown, unknown_shown}
use Rattle.ivl_calendar.proofs.engine.show_room.Goals as goal

pub returns-in_default : goal.returns-in_default
returns-in_default g c = on_ok_weaker c.write_fault.result
    (λ written. (_, unknown_shown c.args.calendar.now c.args.name.now (sym c.in_default.ensures), written))
    c.write_fault.ensures

pub returns-in-Err : goal.returns-in-Err
returns-in-Err g c = on_ok_weaker c.write_fault-in-Err.result
    (λ written. (_, no_memory_shown c.args.calendar.now c.args.name.now c.in-Some.room.now (sym c.in-Some.ensures), written))
    c.write_fault-in-Err.ensures

pub returns-in-Ok : goal.returns-in-Ok
returns-in-Ok g c = on_ok_weaker c.write_bookings.result
    (λ told. (_, room_shown c.args.calendar.now c.args.name.now c.in-Some.room.now c.runs.result.now (named_of c.named.result.now) told.0 (sym c.in-Some.ensures) (c.runs.ensures.same ∙ c.in-Ok.ensures.same) c.named.ensures.same told.1, told.2))
    c.write_bookings.ensures
