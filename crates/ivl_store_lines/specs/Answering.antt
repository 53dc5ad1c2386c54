-- What a session of the store answers to a line, and the state that is left.
--     AnswersAsked old asked text new      the answer to a request
--     AnswersWords old words text new      the answer to a line of these words
--     AnswersLine old line text new      what a line may be answered with, and the state that is left: nothing for a
--         line without words, an error for a line that is not UTF-8
use Rattle.std.specs.Prelude.{◌≡◌, ◌⊎◌, ℕ, Bool, true, false, IsTrue, List, [], ◌∷◌, Option, None, Some}
use Rattle.std.specs.Str.{is_utf8}
use Rattle.ivl_lines.specs.Lines.{words_of}
use Rattle.ivl_store_lines.specs.Faults.{Told, no_text}
use Rattle.ivl_store_lines.specs.Requests.{Asked, needs_list}
use Rattle.ivl_store_lines.specs.RuleForms.{request_of, why_no_request}
use Rattle.ivl_store_lines.specs.Solving.{State, Carries, IsTakenBack, fault_of}
use Rattle.ivl_store_lines.specs.Printed.{told_line, IsReply}

-- carried out, or refused with its fault, which changes nothing, or out of memory, and all is taken back
abbrev pub AnswersAsked : State → Asked → List ℕ → State → Type 0
AnswersAsked old asked text new =
    ((fault_of asked old ≡ None) × Carries asked old new × IsReply asked new text)
    ⊎ ((why : Told) × (fault_of asked old ≡ Some why) × (text ≡ told_line (Some why)) × (new ≡ old))
    ⊎ ((text ≡ told_line None) × IsTakenBack old new)

-- no request, which is told unless the list of its pairs found no memory
abbrev pub AnswersNoRequest : State → List ℕ → List (List ℕ) → List ℕ → State → Type 0
AnswersNoRequest old name words text new =
    ((text ≡ told_line (Some (why_no_request name words))) ⊎ IsTrue (needs_list name words) × (text ≡ told_line None)) × (new ≡ old)

abbrev pub AnswersRead : State → List ℕ → List (List ℕ) → Option Asked → List ℕ → State → Type 0
AnswersRead old name words None text new = AnswersNoRequest old name words text new
AnswersRead old name words (Some asked) text new = AnswersAsked old asked text new

abbrev pub AnswersWords : State → List (List ℕ) → List ℕ → State → Type 0
AnswersWords old [] text new = (text ≡ []) × (new ≡ old)
AnswersWords old (name ∷ words) text new = AnswersRead old name words (request_of name words) text new

-- by whether the line is UTF-8
abbrev pub AnswersBytes : State → List ℕ → Bool → List ℕ → State → Type 0
AnswersBytes old line true text new = AnswersWords old (words_of line) text new
AnswersBytes old line false text new = (text ≡ told_line (Some no_text)) × (new ≡ old)

abbrev pub AnswersLine : State → List ℕ → List ℕ → State → Type 0
AnswersLine old line text new = AnswersBytes old line (is_utf8 line) text new
