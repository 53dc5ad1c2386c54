use Rattle.std.proofs.lemmas.Result.{on_ok_weaker}
use Rattle.ivl_calendar.proofs.Answering.{free_told}
use Rattle.ivl_calendar.proofs.engine.show_free.Goals as goal

pub returns-in-Ok : goal.returns-in-Ok
returns-in-Ok g c =
    on_ok_weaker c.write_spans.result
    (λ told. (_, free_told c.args.calendar.now c.args.window c.in-Ok.free c.runs.result.now told.0 c.in-Ok.ensures c.runs.ensures.same told.1, told.2))
    c.write_spans.ensures
