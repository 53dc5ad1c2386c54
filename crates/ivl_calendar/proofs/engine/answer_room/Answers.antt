use Rattle.std.proofs.Common.{inl, sym}
use Rattle.std.proofs.lemmas.Result.{on_ok_weaker}
use Rattle.ivl_calendar.proofs.engine.answer_room.Goals as goal

pub returns-in-None : goal.returns-in-None
returns-in-None g c = on_ok_weaker c.add.result (λ h. (h.0, inl (c.in-Some.name.now, c.in-Some.ensures.some, inl (sym c.in-None.ensures, h.1)), h.2)) c.add.ensures
