-- What `help` answers.
--     port_commands      the commands
--     port_help_text name      what a command does; none where there is no such command
--     port_help_line words      the answer to `help` with these words after it
use Rattle.std.specs.Prelude.{ℕ, List, [], ◌∷◌, Option, None, Some, bytes_eq, codes, if◌then◌else◌}
use Rattle.ivl_lines.specs.Lines.{with_newline}
use Rattle.ivl_allocator.specs.Faults.{told_of_command, right_form}

abbrev pub port_commands : List ℕ
port_commands = codes "take, give, free; help COMMAND tells what one does"

abbrev pub port_help_text : List ℕ → Option (List ℕ)
port_help_text name =
    if bytes_eq name (codes "take") then Some (codes "take COUNT: takes the lowest so many free ports in a row; take COUNT at PORT: those from this port on; take COUNT above PORT: the lowest above it")
    else if bytes_eq name (codes "give") then Some (codes "give FIRST LAST: gives ports back, unless one of them is free")
    else if bytes_eq name (codes "free") then Some (codes "free: how many ports are free, and which")
    else if bytes_eq name (codes "help") then Some (codes "help: the commands; help COMMAND: what one does")
    else None

abbrev pub port_help_line : List (List ℕ) → List ℕ
port_help_line [] = with_newline port_commands
port_help_line (name ∷ []) = told_of_command name (port_help_text name)
port_help_line (name ∷ next ∷ words) = right_form (codes "help or help COMMAND")
