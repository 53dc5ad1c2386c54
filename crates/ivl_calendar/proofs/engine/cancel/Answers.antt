use Rattle.std.proofs.lemmas.Result.{on_ok_weaker}
use Rattle.ivl_calendar.proofs.Answering.{cancelling_told, no_memory_cancelled}
use Rattle.ivl_calendar.proofs.engine.cancel.Goals as goal

pub returns-in-Ok : goal.returns-in-Ok
returns-in-Ok g c = on_ok_weaker c.tell_cancelling.result
    (λ told. (told.0, cancelling_told c.args.calendar.now c.cancel.new.self c.args.asked.now.name.now c.args.asked.now.days c.in-Ok.done told.0 c.in-Ok.ensures.known c.in-Ok.ensures.unknown told.1, told.2))
    c.tell_cancelling.ensures

pub returns-in-Err : goal.returns-in-Err
returns-in-Err g c =
    on_ok_weaker c.write_fault.result
    (λ written. (_, no_memory_cancelled c.args.calendar.now c.cancel.new.self c.args.asked.now.name.now c.args.asked.now.days c.in-Err.ensures.err, written))
    c.write_fault.ensures
