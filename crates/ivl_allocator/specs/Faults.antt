-- What is wrong with a line: the line that tells it.
--     no_such_command word, right_form form, not_a_number word, below word least, above word most      the lines
--     told_fault fault      the line of a fault
--     told_of_command name text      what a command does, or that there is no such command
use Rattle.std.specs.Prelude.{ℕ, List, ◌++◌, Option, None, Some, codes, decimal}
use Rattle.ivl_lines.specs.Escapes.{escaped}
use Rattle.ivl_lines.specs.Lines.{with_newline}
use Rattle.ivl_allocator.specs.declared.faults.Fault.{Fault}
use Rattle.ivl_allocator.specs.declared.faults.Fault.TheVariants.{Command, Form, Number, Below, Above}

abbrev pub no_such_command : List ℕ → List ℕ
no_such_command word = codes "error: unknown command " ++ (escaped word ++ with_newline (codes "; help lists the commands"))

abbrev pub right_form : List ℕ → List ℕ
right_form form = codes "error: write " ++ with_newline form

abbrev pub not_a_number : List ℕ → List ℕ
not_a_number word = codes "error: " ++ (escaped word ++ with_newline (codes " is no number"))

abbrev pub below : List ℕ → ℕ → List ℕ
below word least = codes "error: " ++ (escaped word ++ (codes " is below " ++ with_newline (decimal least)))

abbrev pub above : List ℕ → ℕ → List ℕ
above word most = codes "error: " ++ (escaped word ++ (codes " is above " ++ with_newline (decimal most)))

abbrev pub told_fault : Fault → List ℕ
told_fault (Command word) = no_such_command word.now
told_fault (Form form) = right_form form.now
told_fault (Number word) = not_a_number word.now
told_fault (Below word least) = below word.now least
told_fault (Above word most) = above word.now most

abbrev pub told_of_command : List ℕ → Option (List ℕ) → List ℕ
told_of_command name None = no_such_command name
told_of_command name (Some text) = with_newline text
