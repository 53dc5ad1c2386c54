use Rattle.std.proofs.Common.{[], ◌∷◌, ◌++◌}
use Rattle.ivl_calendar.proofs.Taking.{named_next, next_booking}
use Rattle.ivl_calendar.proofs.rooms.take_named.Goals as goal

pub loop-booking-preserved : goal.loop-booking-preserved
loop-booking-preserved c =
    let h = c.loop-booking.invariant in (
      h.0 ++ c.in-Some.booking.now ∷ [],
      next_booking h.0 c.loop-booking.left.now c.in-Some.later.now c.args.bookings.now c.in-Some.booking.now c.in-Some.ensures.cases.0 h.1,
      named_next c.args.free.now c.loop-booking.free c.remove_interval.new.self h.0 c.in-Some.booking.now h.2 c.in_ok-remove_interval.ensures.ok,
    )
