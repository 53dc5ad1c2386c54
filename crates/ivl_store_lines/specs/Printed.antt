-- The text of an answer.
--     told_line told      why a line is not carried out, or that memory ran out
--     domain_line name domain      the line of a variable: its name and its domain
--     variable_line name variable domains      the line of the variable with this index; nothing without one
--     domain_lines names domains      the lines of all variables
--     state_line domains progress      whether a domain is empty, and if none is, how far the domains are narrowed
--     IsReply asked new text      the text is an answer to a request that is carried out: `state_line`; before it
--         `domain_lines` or `variable_line` for `show`; `IsSolved` for `solve`; `IsCounted` for `count`; `ShowsBest`
--         for `min` and `max`
--     progress_text progress      how far the domains are narrowed: `ok` or `unfinished`
use Rattle.std.specs.Prelude.{◌≡◌, ℕ, ℤ, List, [], ◌∷◌, ◌++◌, codes, get_or, if◌then◌else◌, Option, None, Some}
use Rattle.std.specs.List.{list_any}
use Rattle.std.specs.Fmt.{signed_decimal}
use Rattle.ivl_lines.specs.Escapes.{escaped}
use Rattle.ivl_search.specs.Points.{IsGreatestAt, IsLeastAt}
use Rattle.ivl_lines.specs.Lines.{with_newline}
use Rattle.ivl_lines.specs.Sets.{pairs_text}
use Rattle.ivl_store.specs.Posts.{has_no_run}
use Rattle.ivl_store_lines.specs.declared.progress.Progress.{Progress}
use Rattle.ivl_store_lines.specs.declared.progress.Progress.TheVariants.{Complete, Budget}
use Rattle.ivl_store_lines.specs.Faults.{Told, no_text, no_command, no_form, no_number, out_of_range, unknown, defined, repeated, numeral, crossed}
use Rattle.ivl_store_lines.specs.Requests.{Asked, var, cut, sum, relate, different, limit, go_on, show, solve, count, least, greatest}
use Rattle.ivl_store_lines.specs.Solving.{State, variable_named}
use Rattle.ivl_store_lines.specs.Solved.{IsSolved, IsCounted, ShowsBest}

abbrev pub told_line : Option Told → List ℕ
told_line None = with_newline (codes "error: out of memory")
told_line (Some no_text) = with_newline (codes "error: not UTF-8")
told_line (Some (no_command word)) = codes "error: unknown command " ++ with_newline (escaped word)
told_line (Some (no_form form)) = codes "error: write " ++ with_newline form
told_line (Some (no_number word)) = codes "error: bad number " ++ with_newline (escaped word)
told_line (Some out_of_range) = with_newline (codes "error: out of range")
told_line (Some (unknown name)) = codes "error: unknown variable " ++ with_newline (escaped name)
told_line (Some (defined name)) = codes "error: " ++ escaped name ++ with_newline (codes " is defined already")
told_line (Some (repeated name)) = codes "error: " ++ escaped name ++ with_newline (codes " is named twice")
told_line (Some (numeral name)) = codes "error: " ++ escaped name ++ with_newline (codes " is a number")
told_line (Some (crossed lower upper)) = codes "error: " ++ signed_decimal lower ++ (codes " is above " ++ with_newline (signed_decimal upper))

abbrev pub domain_line : List ℕ → List (ℤ × ℤ) → List ℕ
domain_line name domain = escaped name ++ (codes " " ++ with_newline (pairs_text domain))

abbrev pub domain_lines : List (List ℕ) → List (List (ℤ × ℤ)) → List ℕ
domain_lines [] domains = []
domain_lines (name ∷ names) [] = []
domain_lines (name ∷ names) (domain ∷ domains) = domain_line name domain ++ domain_lines names domains

abbrev pub variable_line : List ℕ → Option ℕ → List (List (ℤ × ℤ)) → List ℕ
variable_line name None domains = []
variable_line name (Some i) domains = domain_line name (get_or domains i [])

abbrev pub progress_text : Progress → List ℕ
progress_text Complete = codes "ok"
progress_text Budget = codes "unfinished"

abbrev pub state_line : List (List (ℤ × ℤ)) → Progress → List ℕ
state_line domains progress = with_newline (if list_any has_no_run domains then codes "no solution" else progress_text progress)

abbrev pub IsReply : Asked → State → List ℕ → Type 0
IsReply (var name pairs) new text = text ≡ state_line new.domains new.progress
IsReply (cut name pairs) new text = text ≡ state_line new.domains new.progress
IsReply (sum x y z) new text = text ≡ state_line new.domains new.progress
IsReply (relate relation x y by) new text = text ≡ state_line new.domains new.progress
IsReply (different names) new text = text ≡ state_line new.domains new.progress
IsReply (limit n) new text = text ≡ state_line new.domains new.progress
IsReply go_on new text = text ≡ state_line new.domains new.progress
IsReply (show None) new text = text ≡ domain_lines new.names new.domains ++ state_line new.domains new.progress
IsReply (show (Some name)) new text = text ≡ variable_line name (variable_named new.names name) new.domains ++ state_line new.domains new.progress
IsReply (solve most) new text = IsSolved most new text
IsReply count new text = IsCounted new text
IsReply (least name) new text = ShowsBest IsLeastAt name new text
IsReply (greatest name) new text = ShowsBest IsGreatestAt name new text
