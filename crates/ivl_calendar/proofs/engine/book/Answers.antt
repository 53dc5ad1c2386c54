use Rattle.std.proofs.lemmas.Result.{on_ok_weaker}
use Rattle.ivl_calendar.proofs.Answering.{booking_still_known, booking_told, no_memory_booked}
use Rattle.ivl_calendar.proofs.engine.book.Goals as goal

pub tell_booking-requires-clause-known : goal.tell_booking-requires-clause-known
tell_booking-requires-clause-known g c = booking_still_known c.args.calendar.now c.book.new.self c.args.asked.now.name.now c.args.asked.now.days _ c.in-Ok.done c.in-Ok.ensures.known

pub returns-in-Ok : goal.returns-in-Ok
returns-in-Ok g c = on_ok_weaker c.tell_booking.result
    (λ told. (told.0, booking_told c.args.calendar.now c.book.new.self c.args.asked.now.name.now c.args.asked.now.days _ c.in-Ok.done told.0 c.in-Ok.ensures.known c.in-Ok.ensures.unknown told.1, told.2))
    c.tell_booking.ensures

pub returns-in-Err : goal.returns-in-Err
returns-in-Err g c =
    on_ok_weaker c.write_fault.result
    (λ written. (_, no_memory_booked c.args.calendar.now c.book.new.self c.args.asked.now.name.now c.args.asked.now.days _ c.in-Err.ensures.err, written))
    c.write_fault.ensures
