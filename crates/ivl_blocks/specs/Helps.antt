-- What `help` answers.
--     block_commands      the commands
--     block_help_text name      what a command does; none where there is no such command
--     block_help_line words      the answer to `help` with these words after it
use Rattle.std.specs.Prelude.{ℕ, List, [], ◌∷◌, Option, None, Some, bytes_eq, codes, if◌then◌else◌}
use Rattle.ivl_lines.specs.Lines.{with_newline}
use Rattle.ivl_allocator.specs.Faults.{told_of_command, right_form}

abbrev pub block_commands : List ℕ
block_commands = codes "take, give, free, largest; help COMMAND tells what one does"

abbrev pub block_help_text : List ℕ → Option (List ℕ)
block_help_text name =
    if bytes_eq name (codes "take") then Some (codes "take COUNT: takes the lowest so many free blocks in a row; take COUNT at BLOCK: those from this block on; take COUNT above BLOCK: the lowest above it")
    else if bytes_eq name (codes "give") then Some (codes "give FIRST LAST: gives blocks back, unless one of them is free")
    else if bytes_eq name (codes "free") then Some (codes "free: how many blocks are free, and in how many runs")
    else if bytes_eq name (codes "largest") then Some (codes "largest: the lowest of the longest runs of free blocks")
    else if bytes_eq name (codes "help") then Some (codes "help: the commands; help COMMAND: what one does")
    else None

abbrev pub block_help_line : List (List ℕ) → List ℕ
block_help_line [] = with_newline block_commands
block_help_line (name ∷ []) = told_of_command name (block_help_text name)
block_help_line (name ∷ next ∷ words) = right_form (codes "help or help COMMAND")
