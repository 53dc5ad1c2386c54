use Rattle.std.proofs.Common.{◌≡◌, ℕ, ℤ, List, inl, inr, refl, subst, arith}
use Rattle.std.proofs.lemmas.Int.{ints}
use Rattle.std.proofs.lemmas.Result.{on_ok_weaker}
use Rattle.ivl_calendar.specs.Answering.{ShowsWho}
use Rattle.ivl_calendar.specs.Rooms.{Rooms}
use Rattle.ivl_calendar.proofs.engine.answer_who.Goals as goal

shows_at : (old new : Rooms) (name text : List ℕ) (at day : ℤ) → at ≡ day → ShowsWho name at old text new → ShowsWho name day old text new
shows_at old new name text at day is h = subst (λ (z : ℤ). ShowsWho name z old text new) is h

pub returns-in-Ok : goal.returns-in-Ok
returns-in-Ok g c = on_ok_weaker c.show_who.result
    (λ h. (h.0, inl (c.in-Ok.name.now, c.in-Ok.day, c.in-Ok.ensures.ok, shows_at c.args.calendar.now c.args.calendar.now c.in-Ok.name.now h.0 _ c.in-Ok.day (omega (arith, ints)) h.1), h.2))
    c.show_who.ensures

pub returns-in-Err : goal.returns-in-Err
returns-in-Err g c = on_ok_weaker c.write_fault.result (λ written. (_, inr (_, c.in-Err.ensures.err, (refl, refl)), written)) c.write_fault.ensures
