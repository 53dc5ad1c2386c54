use Rattle.std.proofs.lemmas.Result.{on_ok_weaker}
use Rattle.ivl_calendar.proofs.Bookings.{booking_unnamed}
use Rattle.ivl_calendar.proofs.shown.write_unnamed.Goals as goal

pub returns : goal.returns
returns g c = on_ok_weaker c.write_span.result
    (λ span. booking_unnamed c.args.is_first c.args.days.now _ _ _ c.in_ok-write_comma.ensures span)
    c.write_span.ensures
