-- What a line says: nothing, no command, a command, or what is not known, since the line is lost.
--     reading_of line, reading_from action      nothing, no command, or a command with its action; a line that is not
--         UTF-8 is no command
use Rattle.std.specs.Prelude.{◌≡◌, ◌⊎◌, ℕ, List, [], ◌∷◌, if◌then◌else◌, Option, None, Some}
use Rattle.std.specs.Str.{is_utf8}
use Rattle.ivl_calculator.specs.Actions.{Action}
use Rattle.ivl_lines.specs.Answered.{MayBeLost}
use Rattle.ivl_lines.specs.Lines.{words_of}
use Rattle.ivl_calculator_lines.specs.Commands.{action_from}

pub data Reading : Type 0 where
  blank : Reading
  bad : Reading
  command : Action → Reading
  lost : Reading

abbrev pub reading_from : Option Action → Reading
reading_from None = bad
reading_from (Some action) = command action

abbrev pub reading_of_words : List (List ℕ) → Reading
reading_of_words [] = blank
reading_of_words (name ∷ words) = reading_from (action_from name words)

abbrev pub reading_of : List ℕ → Reading
reading_of line = if is_utf8 line then reading_of_words (words_of line) else bad

-- a line that may be lost may be read as that
abbrev pub IsReading : List ℕ → Reading → Type 0
IsReading line reading = (reading ≡ reading_of line) ⊎ (MayBeLost line × (reading ≡ lost))

-- what these lines say, one after another
abbrev pub AreReadings : List (List ℕ) → List Reading → Type 0
AreReadings [] [] = Unit {0}
AreReadings [] (reading ∷ more) = ⊥
AreReadings (line ∷ lines) [] = ⊥
AreReadings (line ∷ lines) (reading ∷ more) = IsReading line reading × AreReadings lines more
