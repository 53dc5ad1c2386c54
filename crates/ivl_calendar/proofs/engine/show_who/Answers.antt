use Rattle.std.proofs.Common.{arith, sym}
use Rattle.std.proofs.lemmas.Int.{ints}
use Rattle.std.proofs.lemmas.Result.{on_ok_weaker}
use Rattle.ivl_calendar.proofs.Answering.{who_told, who_unknown}
use Rattle.ivl_calendar.proofs.engine.show_who.Goals as goal

pub returns-in-Some : goal.returns-in-Some
returns-in-Some g c = on_ok_weaker c.write_who.result
    (λ told. (_, who_told c.args.calendar.now c.args.name.now c.args.day _ (omega (arith, ints)) c.in-Some.room.now told.0 (sym c.in-Some.ensures) told.1, told.2))
    c.write_who.ensures

pub returns-in-None : goal.returns-in-None
returns-in-None g c = on_ok_weaker c.write_fault.result
    (λ written. (_, who_unknown c.args.calendar.now c.args.name.now c.args.day (sym c.in-None.ensures), written))
    c.write_fault.ensures
