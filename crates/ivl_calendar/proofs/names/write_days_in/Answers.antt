use Rattle.std.proofs.Common.{ap}
use Rattle.std.specs.Prelude.{string_bytes}
use Rattle.ivl_calendar.specs.Rooms.{named_of}
use Rattle.ivl_calendar.proofs.Listing.{days_all, days_more}
use Rattle.ivl_calendar.proofs.Named.{Kept, first_dates, later_dates, later_entries}
use Rattle.ivl_calendar.proofs.Spans.{no_items}
use Rattle.ivl_calendar.proofs.names.write_days_in.Goals as goal

pub write_if_for-requires-clause-dates : goal.write_if_for-requires-clause-dates
write_if_for-requires-clause-dates g c = first_dates c.loop-booking.left.now c.in-Some.later.now c.in-Some.booking.now c.in-Some.ensures.cases.0 c.loop-booking.invariant.2

pub loop-booking-preserved : goal.loop-booking-preserved
loop-booking-preserved g c =
    let h = c.loop-booking.invariant in
    let is = c.in-Some.ensures.cases.0 in (
      days_more c.args.who.now c.args.name.now (named_of c.args.bookings.now) c.args.is_first _ (named_of c.loop-booking.left.now) c.loop-booking.is_first _ (c.in-Some.booking.now.0, string_bytes c.in-Some.booking.now.1) (named_of c.in-Some.later.now) c.in_ok-is_first.is_first _
          h.0 (ap (λ (L : Kept). named_of L) is) c.in_ok-is_first.ensures.text c.in_ok-is_first.ensures.first,
      later_entries c.loop-booking.left.now c.in-Some.later.now c.in-Some.booking.now is h.1,
      later_dates c.loop-booking.left.now c.in-Some.later.now c.in-Some.booking.now is h.2,
    )

pub returns-clause-text : goal.returns-clause-text
returns-clause-text g c =
    days_all c.args.who.now c.args.name.now (named_of c.args.bookings.now) c.args.is_first _ (named_of c.loop-booking.left.now) c.loop-booking.is_first _ c.loop-booking.invariant.0
    (ap (λ (L : Kept). named_of L) (no_items c.loop-booking.left.now c.in_default.ensures.cases))
