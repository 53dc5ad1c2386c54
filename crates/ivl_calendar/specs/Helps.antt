-- What `help` answers.
--     commands_text      the commands
--     help_text name      what a command does; none where there is no such command
--     told_help name text      that text as the answer, or that there is no such command
--     help_line words      the answer to `help` with these words after it
use Rattle.std.specs.Prelude.{ℕ, List, [], ◌∷◌, ◌++◌, Option, None, Some, bytes_eq, codes, if◌then◌else◌}
use Rattle.ivl_lines.specs.Lines.{with_newline}
use Rattle.ivl_calendar.specs.Faults.{unknown_command, wrong_form}

abbrev pub commands_text : List ℕ
commands_text = codes "room, rooms, book, cancel, show, gap, free, who, of; help COMMAND tells what one does"

abbrev pub help_text : List ℕ → Option (List ℕ)
help_text name =
    if bytes_eq name (codes "room") then Some (codes "room NAME: a new room, free on all days")
    else if bytes_eq name (codes "rooms") then Some (codes "rooms: the names of the rooms")
    else if bytes_eq name (codes "book") then Some (codes "book ROOM FIRST LAST WHO: books a room from the first day to the last, such as book blue 2026-03-01 2026-03-04 anna; the name may be left out")
    else if bytes_eq name (codes "cancel") then Some (codes "cancel ROOM FIRST LAST: frees a room from the first day to the last, whoever booked it")
    else if bytes_eq name (codes "show") then Some (codes "show ROOM: the bookings of a room, those with a name first")
    else if bytes_eq name (codes "gap") then Some (codes "gap ROOM DAYS FIRST LAST: the first so many days in a row on which a room is free, between two days")
    else if bytes_eq name (codes "free") then Some (codes "free FIRST LAST: the days between two days on which all rooms are free")
    else if bytes_eq name (codes "who") then Some (codes "who ROOM DATE: the name for which a room is booked on a day, booked without a name, or free")
    else if bytes_eq name (codes "of") then Some (codes "of WHO: the days that are booked for a name, each after its room")
    else if bytes_eq name (codes "help") then Some (codes "help: the commands; help COMMAND: what one does")
    else None

abbrev pub told_help : List ℕ → Option (List ℕ) → List ℕ
told_help name None = unknown_command name
told_help name (Some text) = with_newline text

abbrev pub help_line : List (List ℕ) → List ℕ
help_line [] = with_newline commands_text
help_line (name ∷ []) = told_help name (help_text name)
help_line (name ∷ next ∷ words) = wrong_form (codes "help or help COMMAND")
