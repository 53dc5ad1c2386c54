use Rattle.std.proofs.Common.{◌≡◌, ℕ, ℤ, List, Option, None, Some, subst}
use Rattle.std.specs.Prelude.{IfSome}
use Rattle.std.specs.Io.KnownBytes.{Appends}
use Rattle.std.proofs.lemmas.Result.{on_ok_weaker}
use Rattle.ivl_lines.specs.Answered.{AnswersOrLoses, IsAnswered}
use Rattle.ivl_lines.specs.Lines.{lines_of}
use Rattle.ivl_calculator_lines.specs.Reading.{reading_of}
use Rattle.ivl_calculator_lines.specs.Session.{Answers, AnswersReading, IsSessionText, lost_text, start}
use Rattle.ivl_calculator_lines.proofs.Answered.{answers_of}
use Rattle.ivl_calculator_lines.proofs.engine.session.Goals as goal

from_start : (s t : List (List (ℤ × ℤ))) (lines : List (List ℕ)) (text : List ℕ) → s ≡ start → IsAnswered (AnswersOrLoses lost_text (λ old line said new. AnswersReading old (reading_of line) said new)) s lines text t → Answers start lines text t
from_start s t lines text e h = subst (λ (old : List (List (ℤ × ℤ))). Answers old lines text t) e (answers_of s t lines text h)

texts_from : (r x y : Option (List ℕ)) (s t : List (List (ℤ × ℤ))) → s ≡ start → IfSome r (λ bytes. (text : List ℕ) × IsAnswered (AnswersOrLoses lost_text (λ old line said new. AnswersReading old (reading_of line) said new)) s (lines_of bytes) text t × Appends x y text) → IfSome r (λ bytes. (text : List ℕ) × IsSessionText (lines_of bytes) text × Appends x y text)
texts_from None x y s t e h = tt
texts_from (Some bytes) x y s t e h = (h.0, (t, from_start s t (lines_of bytes) h.0 e h.1), h.2)

pub returns-clause-ok : goal.returns-clause-ok
returns-clause-ok g c = on_ok_weaker c.serve.result (λ some. texts_from _ _ _ _ _ c.in_ok-calc.ensures some) c.serve.ensures.ok

pub returns-clause-read : goal.returns-clause-read
returns-clause-read g c = λ failed.
    let answered = c.serve.ensures.read failed in
    (answered.0, answered.1, answered.2, (_, from_start _ _ _ _ c.in_ok-calc.ensures answered.3), answered.4)
