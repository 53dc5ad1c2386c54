-- What `help` answers, and an unknown command.
--     unknown_range_command word      there is no such command
--     range_commands      the commands
--     range_help_text name      what a command does; none where there is no such command
--     told_range_help name text      that text as the answer, or that there is no such command
--     range_help_line words      the answer to `help` with these words after it
use Rattle.std.specs.Prelude.{ℕ, List, [], ◌∷◌, ◌++◌, Option, None, Some, bytes_eq, codes, if◌then◌else◌}
use Rattle.ivl_lines.specs.Escapes.{escaped}
use Rattle.ivl_lines.specs.Lines.{with_newline}

abbrev pub unknown_range_command : List ℕ → List ℕ
unknown_range_command word = codes "error: unknown command " ++ (escaped word ++ with_newline (codes "; help lists the commands"))

abbrev pub range_commands : List ℕ
range_commands = codes "i, k, length, check; help COMMAND tells what one does"

abbrev pub range_help_text : List ℕ → Option (List ℕ)
range_help_text name =
    if bytes_eq name (codes "i") then Some (codes "i RANGES: the values that i may have, such as i -1..1 5..5, the lower end first")
    else if bytes_eq name (codes "k") then Some (codes "k RANGES: the values that k may have, such as k -1..1 5..5, the lower end first")
    else if bytes_eq name (codes "length") then Some (codes "length NUMBER: the length of the array")
    else if bytes_eq name (codes "check") then Some (codes "check: safe, or the values of i that are safe for every k")
    else if bytes_eq name (codes "help") then Some (codes "help: the commands; help COMMAND: what one does")
    else None

abbrev pub told_range_help : List ℕ → Option (List ℕ) → List ℕ
told_range_help name None = unknown_range_command name
told_range_help name (Some text) = with_newline text

abbrev pub range_help_line : List (List ℕ) → List ℕ
range_help_line [] = with_newline range_commands
range_help_line (name ∷ []) = told_range_help name (range_help_text name)
range_help_line (name ∷ next ∷ words) = with_newline (codes "error: write help or help COMMAND")
