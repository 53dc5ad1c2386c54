use Rattle.std.proofs.Common.{◌≡◌, ◌∙◌, Bool, Option, Some, true, false, ap, refl, subst, sym}
use Rattle.std.specs.Prelude.{codes}
use Rattle.std.proofs.lemmas.Result.{on_ok_weaker}
use Rattle.ivl_lines.specs.Lines.{with_newline}
use Rattle.ivl_calendar.specs.Answering.{IsCancellingTold}
use Rattle.ivl_calendar.specs.Faults.{unknown_room}
use Rattle.ivl_calendar.proofs.engine.tell_cancelling.Goals as goal

pub returns-in_default : goal.returns-in_default
returns-in_default g c = on_ok_weaker c.write_fault.result
    (λ line. (unknown_room c.args.name.now, subst (λ (o : Option Bool). IsCancellingTold o c.args.name.now (unknown_room c.args.name.now)) (sym c.in_default.is) refl, line))
    c.write_fault.ensures

pub returns-then-done : goal.returns-then-done
returns-then-done g c =
    let is : c.args.done ≡ Some true = c.in-Some.is ∙ ap (λ (b : Bool). Some b) c.if-done.true in
    on_ok_weaker c.write_line.result
    (λ line. (with_newline (codes "cancelled"), subst (λ (o : Option Bool). IsCancellingTold o c.args.name.now (with_newline (codes "cancelled"))) (sym is) refl, line))
    c.write_line.ensures

pub returns-else-done : goal.returns-else-done
returns-else-done g c =
    let is : c.args.done ≡ Some false = c.in-Some.is ∙ ap (λ (b : Bool). Some b) c.if-done.false in
    on_ok_weaker c.write_line-else-done.result
    (λ line. (with_newline (codes "not booked"), subst (λ (o : Option Bool). IsCancellingTold o c.args.name.now (with_newline (codes "not booked"))) (sym is) refl, line))
    c.write_line-else-done.ensures
