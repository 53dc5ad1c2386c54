use Rattle.std.proofs.lemmas.Result.{on_ok_weaker}
use Rattle.ivl_calculator_lines.proofs.Unkept.{unkept_answer}
use Rattle.ivl_calculator_lines.proofs.engine.answer_line.Goals as goal

pub returns-in-Err : goal.returns-in-Err
returns-in-Err g c =
    on_ok_weaker c.write_unkept.result (λ written. (_, unkept_answer _ _ _ c.in-Err.ensures.unkept, written)) c.write_unkept.ensures
