use Rattle.std.proofs.Common.{inr, refl}
use Rattle.std.proofs.lemmas.Result.{on_ok_weaker}
use Rattle.ivl_calendar.proofs.engine.answer_book.Goals as goal

pub returns-in-Err : goal.returns-in-Err
returns-in-Err g c = on_ok_weaker c.write_fault.result (λ written. (_, inr (_, c.in-Err.ensures.err, (refl, refl)), written)) c.write_fault.ensures
