-- Lines that state a rule, as `x + 3 <= y`, and what any line asks for, by its words.
--     relation_of sign      the relation that `=`, `<=` or `!=` is the sign of; `None` of another word
--     shifted_left x word y relation n      what `x + word` before the sign and `y` after it ask for, given the number that
--         the word is, or their fault: the number shifts `x`, and a name before `=` is added to it
--     shifted_right x y word relation n      the same of `x` before the sign and `y + word` after it, which is `x - word`
--         before it
--     opposite n, shifted_back x y relation by      the number with its sign turned, if i64 has it, and the rule with that
--         shift, or its fault
--     rule_of words      what a line that has the form of a rule asks for, or its fault; `None` if it has no such form
--     begins_as_rule words      the first of the words after a name is a sign or `+`
--     request_of name words      what the first word of a line and the words after it ask for: a rule, if they have its
--         form, or else a command; `None` if they are neither
--     why_no_request name words      the fault of words that are neither
use Rattle.std.specs.Prelude.{◌^◌, ◌-◌, ℕ, ℤ, pos, neg_ℤ, int_le, Bool, false, ◌||◌, List, [], ◌∷◌, bytes_eq, codes, if◌then◌else◌, Option, None, Some, is_some, option_map, Result, Ok, Err}
use Rattle.ivl_lines.specs.Numbers.{number_of}
use Rattle.ivl_store_lines.specs.declared.relation.Relation.{Relation}
use Rattle.ivl_store_lines.specs.declared.relation.Relation.TheVariants.{Shifted, AtMost, Differs}
use Rattle.ivl_store_lines.specs.Faults.{Told, no_command, no_form, no_number, out_of_range}
use Rattle.ivl_store_lines.specs.Requests.{Asked, sum, relate, asked_by, why_no_command}

abbrev pub relation_of : List ℕ → Option Relation
relation_of sign =
    if bytes_eq sign (codes "=") then Some Shifted
    else if bytes_eq sign (codes "<=") then Some AtMost
    else if bytes_eq sign (codes "!=") then Some Differs
    else None

abbrev pub shifted_left : List ℕ → List ℕ → List ℕ → Relation → Option ℤ → Result Asked Told
shifted_left x word y relation (Some n) = Ok (relate relation x y n)
shifted_left x word y Shifted None = Ok (sum x word y)
shifted_left x word y AtMost None = Err (no_number word)
shifted_left x word y Differs None = Err (no_number word)

-- the number with its sign turned, where i64 has that
abbrev pub opposite : ℤ → Option ℤ
opposite n = if int_le (neg_ℤ n) (pos (2 ^ 63 - 1)) then Some (neg_ℤ n) else None

abbrev pub shifted_back : List ℕ → List ℕ → Relation → Option ℤ → Result Asked Told
shifted_back x y relation (Some by) = Ok (relate relation x y by)
shifted_back x y relation None = Err out_of_range

abbrev pub shifted_right : List ℕ → List ℕ → List ℕ → Relation → Option ℤ → Result Asked Told
shifted_right x y word relation (Some n) = shifted_back x y relation (opposite n)
shifted_right x y word relation None = Err (no_number word)

abbrev pub rule_of : List (List ℕ) → Option (Result Asked Told)
rule_of (x ∷ sign ∷ y ∷ []) = option_map (λ relation. Ok (relate relation x y (pos 0))) (relation_of sign)
rule_of (x ∷ second ∷ third ∷ fourth ∷ fifth ∷ []) =
    if bytes_eq second (codes "+") then option_map (λ relation. shifted_left x third fifth relation (number_of third)) (relation_of fourth)
    else if bytes_eq fourth (codes "+") then option_map (λ relation. shifted_right x third fifth relation (number_of fifth)) (relation_of second)
    else None
rule_of _ = None

abbrev pub begins_as_rule : List (List ℕ) → Bool
begins_as_rule [] = false
begins_as_rule (second ∷ words) = bytes_eq second (codes "+") || is_some (relation_of second)

-- a rule, or else what the command asks for
abbrev pub asked_first : Option (Result Asked Told) → Option Asked → Option Asked
asked_first (Some (Ok asked)) command = Some asked
asked_first (Some (Err why)) command = None
asked_first None command = command

abbrev pub request_of : List ℕ → List (List ℕ) → Option Asked
request_of name words = asked_first (rule_of (name ∷ words)) (asked_by name words)

-- the fault of a rule, or else that of the command
abbrev pub told_first : Option (Result Asked Told) → Told → Told
told_first (Some (Ok asked)) command = command
told_first (Some (Err why)) command = why
told_first None command = command

-- of words that begin with no name of a command
abbrev pub why_unknown : List ℕ → List (List ℕ) → Told
why_unknown name words = if begins_as_rule words then no_form (codes "x + n <= y, x + n != y, x + n = y or x + y = z") else no_command name

abbrev pub why_no_request : List ℕ → List (List ℕ) → Told
why_no_request name words = told_first (rule_of (name ∷ words)) (why_no_command (why_unknown name words) name words)
