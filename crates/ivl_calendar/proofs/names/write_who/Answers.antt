use Rattle.std.proofs.Common.{arith}
use Rattle.std.proofs.lemmas.Int.{ints}
use Rattle.std.proofs.lemmas.Result.{on_ok_weaker}
use Rattle.ivl_calendar.proofs.Listing.{who_free, who_unnamed}
use Rattle.ivl_calendar.proofs.names.write_who.Goals as goal

pub returns-in-None : goal.returns-in-None
returns-in-None g c = on_ok_weaker c.write_line.result
    (λ written. (_, who_unnamed c.args.room.now c.args.day _ _ (omega (arith, ints)) (omega (arith, ints)) c.in-None.ensures (c.is_booked_without_name.ensures.0 c.if-is_booked_without_name.true), written))
    c.write_line.ensures

pub returns-in-None-2 : goal.returns-in-None-2
returns-in-None-2 g c = on_ok_weaker c.write_line-in-None-2.result
    (λ written. (_, who_free c.args.room.now c.args.day _ _ (omega (arith, ints)) (omega (arith, ints)) c.in-None-2.ensures (λ h. let yes = c.is_booked_without_name.ensures.1 h in let no = c.if-is_booked_without_name.false in cc), written))
    c.write_line-in-None-2.ensures
