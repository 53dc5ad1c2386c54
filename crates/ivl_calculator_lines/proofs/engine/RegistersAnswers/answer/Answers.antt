use Rattle.std.proofs.Common.{◌≡◌, ℕ, ℤ, List, refl}
use Rattle.std.proofs.lemmas.Result.{on_ok_weaker}
use Rattle.ivl_calculator_lines.specs.Reading.{Reading}
use Rattle.ivl_calculator_lines.specs.Session.{AnswersReading}
use Rattle.ivl_calculator_lines.proofs.engine.RegistersAnswers.answer.Goals as goal

-- what answers what a line says answers the line
read_as : (old other new : List (List (ℤ × ℤ))) (said reading : Reading) (text : List ℕ) → other ≡ old → said ≡ reading → AnswersReading other said text new → AnswersReading old reading text new
read_as old other new said reading text e f h = rw (← e, ← f) h

pub returns : goal.returns
returns g c =
    on_ok_weaker c.answer_line.result (λ wrote. (wrote.0, read_as _ _ _ _ _ _ c.self.view_is refl wrote.1, wrote.2)) c.answer_line.ensures
