-- What is wrong with a line: the line that tells its first fault, word by word.
--     unknown_command, wrong_form, unknown_room, known_room, no_day, crossed, no_name, no_number, too_low, too_high      the lines
--     fault_line fault      the line of a fault
--     IsDayFault word told      the word is no day, which is told
--     IsWindowFault first last told      one of the words is no day, or the last day is before the first
--     IsCountFault word told      the word is no number from 1 to 4294967295
--     IsPersonFault words told      the words after the dates are no name of who books
--     IsBookFault, IsCancelFault, IsGapFault, IsFreeFault, IsWhoFault words told      what is wrong with the words after the command
use Rattle.std.specs.Prelude.{◌≡◌, ◌≢◌, ◌⊎◌, ◌<◌, ◌^◌, ℕ, ℤ, pos, ◌≤ℤ◌, ◌<ℤ◌, List, [], ◌∷◌, ◌++◌, None, Some, codes, length}
use Rattle.ivl_lines.specs.Commands.{no_memory}
use Rattle.ivl_lines.specs.Escapes.{escaped}
use Rattle.ivl_lines.specs.Lines.{with_newline}
use Rattle.ivl_lines.specs.Numbers.{number_of}
use Rattle.ivl_calendar.specs.declared.faults.Fault.{Fault}
use Rattle.ivl_calendar.specs.declared.faults.Fault.TheVariants.{Command, Form, Room, Known, Day, Order, Name, Number, Low, High, Memory}
use Rattle.ivl_calendar.specs.Days.{IsDayText, IsWindow}
use Rattle.ivl_calendar.specs.Requests.{IsName}

abbrev pub unknown_command : List ℕ → List ℕ
unknown_command word = codes "error: unknown command " ++ (escaped word ++ with_newline (codes "; help lists the commands"))

abbrev pub wrong_form : List ℕ → List ℕ
wrong_form form = codes "error: write " ++ with_newline form

abbrev pub unknown_room : List ℕ → List ℕ
unknown_room name = codes "error: unknown room " ++ with_newline (escaped name)

abbrev pub known_room : List ℕ → List ℕ
known_room name = codes "error: " ++ (escaped name ++ with_newline (codes " is a room already"))

abbrev pub no_day : List ℕ → List ℕ
no_day word = codes "error: " ++ (escaped word ++ with_newline (codes " is no day"))

abbrev pub crossed : List ℕ → List ℕ → List ℕ
crossed first last = codes "error: " ++ (escaped last ++ (codes " is before " ++ with_newline (escaped first)))

abbrev pub no_name : List ℕ → List ℕ
no_name word = codes "error: " ++ (escaped word ++ with_newline (codes " is no name"))

abbrev pub no_number : List ℕ → List ℕ
no_number word = codes "error: " ++ (escaped word ++ with_newline (codes " is no number"))

abbrev pub too_low : List ℕ → List ℕ
too_low word = codes "error: " ++ (escaped word ++ with_newline (codes " is below 1"))

abbrev pub too_high : List ℕ → List ℕ
too_high word = codes "error: " ++ (escaped word ++ with_newline (codes " is above 4294967295"))

abbrev pub fault_line : Fault → List ℕ
fault_line (Command word) = unknown_command word.now
fault_line (Form form) = wrong_form form.now
fault_line (Room name) = unknown_room name.now
fault_line (Known name) = known_room name.now
fault_line (Day word) = no_day word.now
fault_line (Order first last) = crossed first.now last.now
fault_line (Name word) = no_name word.now
fault_line (Number word) = no_number word.now
fault_line (Low word) = too_low word.now
fault_line (High word) = too_high word.now
fault_line Memory = no_memory

abbrev pub IsDayFault : List ℕ → List ℕ → Type 0
IsDayFault word told = ((day : ℤ) → ¬ (IsDayText day word)) × (told ≡ no_day word)

abbrev pub IsWindowFault : List ℕ → List ℕ → List ℕ → Type 0
IsWindowFault first last told =
    IsDayFault first told
    ⊎ (((from : ℤ) × IsDayText from first × IsDayFault last told)
    ⊎ ((from to : ℤ) × IsDayText from first × IsDayText to last × (to <ℤ from) × (told ≡ crossed first last)))

abbrev pub IsCountFault : List ℕ → List ℕ → Type 0
IsCountFault word told =
    ((number_of word ≡ None) × (told ≡ no_number word))
    ⊎ (((z : ℤ) × (number_of word ≡ Some z) × (z <ℤ pos 1) × (told ≡ too_low word))
    ⊎ ((z : ℤ) × (number_of word ≡ Some z) × (pos (2 ^ 32) ≤ℤ z) × (told ≡ too_high word)))

abbrev pub book_form : List ℕ
book_form = codes "book ROOM FIRST LAST or book ROOM FIRST LAST WHO"

abbrev pub IsPersonFault : List (List ℕ) → List ℕ → Type 0
IsPersonFault words told =
    ((word : List ℕ) × (words ≡ word ∷ []) × (¬ (IsName word)) × (told ≡ no_name word))
    ⊎ ((1 < length words) × (told ≡ wrong_form book_form))

abbrev pub IsBookFault : List (List ℕ) → List ℕ → Type 0
IsBookFault words told =
    ((length words < 3) × (told ≡ wrong_form book_form))
    ⊎ ((name first last : List ℕ) × (rest : List (List ℕ)) × (words ≡ name ∷ first ∷ last ∷ rest)
    × (IsWindowFault first last told ⊎ ((days : ℤ × ℤ) × IsWindow first last days × IsPersonFault rest told)))

abbrev pub IsCancelFault : List (List ℕ) → List ℕ → Type 0
IsCancelFault words told =
    ((length words ≢ 3) × (told ≡ wrong_form (codes "cancel ROOM FIRST LAST")))
    ⊎ ((name first last : List ℕ) × (words ≡ name ∷ first ∷ last ∷ []) × IsWindowFault first last told)

abbrev pub IsGapFault : List (List ℕ) → List ℕ → Type 0
IsGapFault words told =
    ((length words ≢ 4) × (told ≡ wrong_form (codes "gap ROOM DAYS FIRST LAST")))
    ⊎ ((name days first last : List ℕ) × (words ≡ name ∷ days ∷ first ∷ last ∷ [])
    × (IsCountFault days told
    ⊎ ((count : ℕ) × (number_of days ≡ Some (pos count)) × (0 < count) × (count < 2 ^ 32) × IsWindowFault first last told)))

abbrev pub IsFreeFault : List (List ℕ) → List ℕ → Type 0
IsFreeFault words told =
    ((length words ≢ 2) × (told ≡ wrong_form (codes "free FIRST LAST")))
    ⊎ ((first last : List ℕ) × (words ≡ first ∷ last ∷ []) × IsWindowFault first last told)

abbrev pub IsWhoFault : List (List ℕ) → List ℕ → Type 0
IsWhoFault words told =
    ((length words ≢ 2) × (told ≡ wrong_form (codes "who ROOM DATE")))
    ⊎ ((name word : List ℕ) × (words ≡ name ∷ word ∷ []) × IsDayFault word told)
