-- What a line asks for, by the words after its first.
--     AsksToAdd words name      the name of a room, alone, as also for its bookings
--     IsName word      the word may be a name of who books: it is neither a date nor `free`, which `who` answers of a day
--     IsWho words who      the name that these words are, or none where there is no word
--     AsksToBook words name days who      a room, the dates of the first and the last day, and the name of who books, if there is one
--     AsksToCancel words name days      a room, and the dates of the first and the last day
--     AsksWho words name day      a room, and the date of the day
--     AsksOf words who      the name of who books, alone
--     AsksForGap words name count window      a name, how many days, and the first and the last date of a window
--     AsksForFree words window      the first and the last date of a window
--     command_of name      what the first word of a line asks for
use Rattle.std.specs.Prelude.{◌≡◌, ◌⊎◌, ◌^◌, ◌<◌, ℕ, ℤ, pos, List, [], ◌∷◌, Option, None, Some, bytes_eq, codes, if◌then◌else◌, slice_index, ◌==◌}
use Rattle.ivl_lines.specs.Numbers.{number_of}
use Rattle.ivl_calendar.specs.Days.{IsDayText, IsWindow}

abbrev pub AsksToAdd : List (List ℕ) → List ℕ → Type 0
AsksToAdd words name = words ≡ name ∷ []

abbrev pub IsName : List ℕ → Type 0
IsName word = ((day : ℤ) → ¬ (IsDayText day word)) × (¬ (word ≡ codes "free"))

abbrev pub IsWho : List (List ℕ) → Option (List ℕ) → Type 0
IsWho words None = words ≡ []
IsWho words (Some who) = (words ≡ who ∷ []) × IsName who

abbrev pub AsksToBook : List (List ℕ) → List ℕ → ℤ × ℤ → Option (List ℕ) → Type 0
AsksToBook words name days who =
    (first last : List ℕ) × (rest : List (List ℕ)) × (words ≡ name ∷ first ∷ last ∷ rest) × IsWindow first last days × IsWho rest who

abbrev pub AsksToCancel : List (List ℕ) → List ℕ → ℤ × ℤ → Type 0
AsksToCancel words name days = (first last : List ℕ) × (words ≡ name ∷ first ∷ last ∷ []) × IsWindow first last days

-- one day at least
abbrev pub AsksForGap : List (List ℕ) → List ℕ → ℕ → ℤ × ℤ → Type 0
AsksForGap words name count window =
    (days first last : List ℕ) × (words ≡ name ∷ days ∷ first ∷ last ∷ [])
    × (number_of days ≡ Some (pos count)) × (0 < count) × (count < 2 ^ 32) × IsWindow first last window

abbrev pub AsksForFree : List (List ℕ) → ℤ × ℤ → Type 0
AsksForFree words window = (first last : List ℕ) × (words ≡ first ∷ last ∷ []) × IsWindow first last window

abbrev pub AsksWho : List (List ℕ) → List ℕ → ℤ → Type 0
AsksWho words name day = (text : List ℕ) × (words ≡ name ∷ text ∷ []) × IsDayText day text

abbrev pub AsksOf : List (List ℕ) → List ℕ → Type 0
AsksOf words who = words ≡ who ∷ []

pub data Command : Type 0 where
  room : Command
  rooms : Command
  book : Command
  cancel : Command
  show : Command
  gap : Command
  free : Command
  who : Command
  of : Command
  help : Command
  comment : Command
  other : Command

-- a comment begins with `#`, which is 35
abbrev pub command_of : List ℕ → Command
command_of name =
    if bytes_eq name (codes "room") then room
    else if bytes_eq name (codes "rooms") then rooms
    else if bytes_eq name (codes "book") then book
    else if bytes_eq name (codes "cancel") then cancel
    else if bytes_eq name (codes "show") then show
    else if bytes_eq name (codes "gap") then gap
    else if bytes_eq name (codes "free") then free
    else if bytes_eq name (codes "who") then who
    else if bytes_eq name (codes "of") then of
    else if bytes_eq name (codes "help") then help
    else if slice_index name 0 == 35 then comment
    else other
