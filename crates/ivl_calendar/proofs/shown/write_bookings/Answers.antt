use Rattle.std.proofs.Common.{map, refl}
use Rattle.std.proofs.lemmas.Result.{on_ok_weaker}
use Rattle.ivl_calendar.specs.Rooms.{named_of}
use Rattle.ivl_calendar.specs.Shown.{with_name, without_name}
use Rattle.ivl_calendar.proofs.Bookings.{shown_none, shown_some}
use Rattle.ivl_calendar.proofs.shown.write_bookings.Goals as goal

pub returns-then-is_none : goal.returns-then-is_none
returns-then-is_none g c = on_ok_weaker c.write_line.result
    (λ line. shown_none (c.args.unnamed.now, named_of c.args.named.now) (map with_name (named_of c.args.named.now)) (map without_name c.args.unnamed.now) refl c.in_ok-is_first.is_first c.in_ok-is_none.is_none _ _ _ _
    c.in_ok-is_first.ensures.first c.in_ok-is_none.ensures.first c.in_ok-is_first.ensures.text c.in_ok-is_none.ensures.text c.if-is_none.true line)
    c.write_line.ensures

pub returns : goal.returns
returns g c = on_ok_weaker c.write_all.result
    (λ newline. shown_some (c.args.unnamed.now, named_of c.args.named.now) (map with_name (named_of c.args.named.now)) (map without_name c.args.unnamed.now) refl c.in_ok-is_first.is_first c.in_ok-is_none.is_none _ _ _ _
    c.in_ok-is_first.ensures.first c.in_ok-is_none.ensures.first c.in_ok-is_first.ensures.text c.in_ok-is_none.ensures.text c.if-is_none.false newline)
    c.write_all.ensures.bytes
