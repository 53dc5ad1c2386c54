use Rattle.std.proofs.lemmas.Result.{on_ok_weaker}
use Rattle.ivl_calendar.proofs.Bookings.{booking_named}
use Rattle.ivl_calendar.proofs.shown.write_named.Goals as goal

pub returns : goal.returns
returns g c = on_ok_weaker c.write.result
    (λ written. booking_named c.args.is_first c.args.days.now c.args.name.now _ _ _ _ c.in_ok-write_comma.ensures c.in_ok-write_span.ensures written)
    c.write.ensures.bytes
