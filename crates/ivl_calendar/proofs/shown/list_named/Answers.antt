use Rattle.std.proofs.Common.{[], ◌∷◌, ℕ, List, Some, ap, map, subst, true}
use Rattle.std.specs.Prelude.{string_bytes}
use Rattle.std.specs.Io.KnownBytes.{Appends}
use Rattle.ivl_calendar.specs.Rooms.{named_of}
use Rattle.ivl_calendar.specs.Shown.{AreBookingsText, with_name}
use Rattle.ivl_calendar.proofs.Bookings.{first_all, shown_all, shown_begun, shown_more}
use Rattle.ivl_calendar.proofs.Named.{Kept, first_span, later_dates, later_entries}
use Rattle.ivl_calendar.proofs.Spans.{no_items}
use Rattle.ivl_calendar.proofs.shown.list_named.Goals as goal

pub loop-booking-init : goal.loop-booking-init
loop-booking-init g c = (shown_begun (map with_name (named_of c.args.named.now)) true (g.W.Write.contents c.args.writer.now), c.requires.entries, c.requires.dates)

pub write_named-requires : goal.write_named-requires
write_named-requires g c =
    let span = first_span c.loop-booking.left.now c.in-Some.later.now c.in-Some.booking.now c.in-Some.ensures.cases.0 c.loop-booking.invariant.1 c.loop-booking.invariant.2 in
    record { order = span.0; first = span.1; last = span.2 }

pub loop-booking-preserved : goal.loop-booking-preserved
loop-booking-preserved g c =
    let h = c.loop-booking.invariant in
    let is = c.in-Some.ensures.cases.0 in
    let one = subst (λ (who : List ℕ). (text : List ℕ) × AreBookingsText c.loop-booking.is_first ((c.in-Some.booking.now.0, Some who) ∷ []) text × Appends (g.W.Write.contents c.loop-booking.writer) (g.W.Write.contents c.write_named.new.writer) text)
    c.as_str.ensures.value c.in_ok-write_named.ensures in (
      shown_more (map with_name (named_of c.args.named.now)) true _ (map with_name (named_of c.loop-booking.left.now)) c.loop-booking.is_first _ (with_name (c.in-Some.booking.now.0, string_bytes c.in-Some.booking.now.1))
          (map with_name (named_of c.in-Some.later.now)) _ h.0 (ap (λ (L : Kept). map with_name (named_of L)) is) one,
      later_entries c.loop-booking.left.now c.in-Some.later.now c.in-Some.booking.now is h.1,
      later_dates c.loop-booking.left.now c.in-Some.later.now c.in-Some.booking.now is h.2,
    )

pub returns-clause-text : goal.returns-clause-text
returns-clause-text g c =
    shown_all (map with_name (named_of c.args.named.now)) true _ (map with_name (named_of c.loop-booking.left.now)) c.loop-booking.is_first _ c.loop-booking.invariant.0
    (ap (λ (L : Kept). map with_name (named_of L)) (no_items c.loop-booking.left.now c.in_default.ensures.cases))

pub returns-clause-first : goal.returns-clause-first
returns-clause-first g c =
    first_all (map with_name (named_of c.args.named.now)) true _ (map with_name (named_of c.loop-booking.left.now)) c.loop-booking.is_first _ c.loop-booking.invariant.0
    (ap (λ (L : Kept). map with_name (named_of L)) (no_items c.loop-booking.left.now c.in_default.ensures.cases))
