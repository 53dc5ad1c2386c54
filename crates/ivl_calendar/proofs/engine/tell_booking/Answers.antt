use Rattle.std.proofs.Common.{◌≡◌, ◌∙◌, Bool, Option, Some, true, false, ap, refl, subst, sym}
use Rattle.std.specs.Prelude.{codes}
use Rattle.std.proofs.lemmas.Result.{on_ok_weaker}
use Rattle.ivl_lines.specs.Lines.{with_newline}
use Rattle.ivl_calendar.specs.Answering.{IsBookingTold}
use Rattle.ivl_calendar.specs.Faults.{unknown_room}
use Rattle.ivl_calendar.proofs.Answering.{taken_known}
use Rattle.ivl_calendar.proofs.engine.tell_booking.Goals as goal

pub returns-in_default : goal.returns-in_default
returns-in_default g c = on_ok_weaker c.write_fault.result
    (λ line. (unknown_room c.args.name.now, subst (λ (o : Option Bool). IsBookingTold o c.args.name.now c.args.days.now c.args.calendar.now (unknown_room c.args.name.now)) (sym c.in_default.is) refl, line))
    c.write_fault.ensures

pub returns-then-done : goal.returns-then-done
returns-then-done g c =
    let is : c.args.done ≡ Some true = c.in-Some.is ∙ ap (λ (b : Bool). Some b) c.if-done.true in
    on_ok_weaker c.write_line.result
    (λ line. (with_newline (codes "booked"), subst (λ (o : Option Bool). IsBookingTold o c.args.name.now c.args.days.now c.args.calendar.now (with_newline (codes "booked"))) (sym is) refl, line))
    c.write_line.ensures

pub answer_taken-requires-clause-known : goal.answer_taken-requires-clause-known
answer_taken-requires-clause-known g c = taken_known c.args.calendar.now c.args.name.now c.args.done (c.in-Some.is ∙ ap (λ (b : Bool). Some b) c.if-done.false) c.requires.known

pub returns-else-done : goal.returns-else-done
returns-else-done g c =
    let is : c.args.done ≡ Some false = c.in-Some.is ∙ ap (λ (b : Bool). Some b) c.if-done.false in
    on_ok_weaker c.answer_taken.result
    (λ told. (with_newline told.1, subst (λ (o : Option Bool). IsBookingTold o c.args.name.now c.args.days.now c.args.calendar.now (with_newline told.1)) (sym is) (told.0, told.1, told.2, told.3, refl), told.4))
    c.answer_taken.ensures
