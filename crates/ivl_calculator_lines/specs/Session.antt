-- What a whole session writes for its lines. The state is the list of the registers, each the list of the runs of
-- its set.
--     Answers old lines text new      from old, this text may answer these lines, and the state go on to new
--     IsSessionText lines text      the same from 26 empty registers
--     IsWholeSessionText lines text      `IsSessionText`, no line was lost, and no command was refused as out of
--         memory; the same lines have one such text
use Rattle.std.specs.Prelude.{◌≡◌, ◌≢◌, ℕ, ℤ, pos, negsuc, ◌^◌, ◌-◌, All, List, [], ◌∷◌, ◌++◌, codes, map, replicate}
use Rattle.ivl_lines.specs.Lines.{with_newline}
use Rattle.ivl_calculator.specs.Actions.{Action, Answer, refused}
use Rattle.ivl_calculator.specs.Step.{MayStep, Run}
use Rattle.ivl_calculator.specs.declared.reply.Refusal.TheVariants.{Memory}
use Rattle.ivl_calculator_lines.specs.Reading.{AreReadings, Reading, blank, bad, command, lost, reading_of}
use Rattle.ivl_calculator_lines.specs.Printed.{printed}

-- the least and the greatest number that a set over i64 may hold
abbrev pub i64_range : ℤ × ℤ
i64_range = (negsuc (2 ^ 63 - 2), pos (2 ^ 63 - 1))

-- the commands among the lines
abbrev pub actions_of : List Reading → List Action
actions_of [] = []
actions_of (blank ∷ more) = actions_of more
actions_of (bad ∷ more) = actions_of more
actions_of (command action ∷ more) = action ∷ actions_of more
actions_of (lost ∷ more) = actions_of more

-- the text for a line that is lost
abbrev pub lost_text : List ℕ
lost_text = with_newline (printed (refused Memory))

-- the replies in the places of their commands, `bad line` for each line that is no command, and a refusal for each that is lost
abbrev pub placed : List Reading → List Answer → List ℕ
placed [] answers = []
placed (blank ∷ more) answers = placed more answers
placed (bad ∷ more) answers = with_newline (codes "bad line") ++ placed more answers
placed (lost ∷ more) answers = lost_text ++ placed more answers
placed (command action ∷ more) [] = []
placed (command action ∷ more) (answer ∷ answers) = with_newline (printed answer) ++ placed more answers

pub record Answers (old : List (List (ℤ × ℤ))) (lines : List (List ℕ)) (text : List ℕ) (new : List (List (ℤ × ℤ))) : Type 0 where
  pub readings : List Reading
  pub read : AreReadings lines readings
  pub replies : List Answer
  pub run : Run i64_range old (actions_of readings) replies new
  pub written : text ≡ placed readings replies

abbrev pub start : List (List (ℤ × ℤ))
start = replicate 26 []

abbrev pub IsSessionText : List (List ℕ) → List ℕ → Type 0
IsSessionText lines text = (new : List (List (ℤ × ℤ))) × Answers start lines text new

pub record IsWholeSessionText (lines : List (List ℕ)) (text : List ℕ) : Type 0 where
  pub new : List (List (ℤ × ℤ))
  pub answers : Answers start lines text new
  pub whole : answers.readings ≡ map reading_of lines
  pub plenty : All (λ answer. answer ≢ refused Memory) answers.replies

-- what `Answers` says, for what one line says
abbrev pub AnswersReading : List (List (ℤ × ℤ)) → Reading → List ℕ → List (List (ℤ × ℤ)) → Type 0
AnswersReading old blank text new = (text ≡ []) × (new ≡ old)
AnswersReading old bad text new = (text ≡ with_newline (codes "bad line")) × (new ≡ old)
AnswersReading old (command action) text new =
    (answer : Answer) × MayStep i64_range old action answer new × (text ≡ with_newline (printed answer))
AnswersReading old lost text new = (text ≡ lost_text) × (new ≡ old)
