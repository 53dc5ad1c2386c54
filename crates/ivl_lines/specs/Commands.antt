-- The answer to a line, by its first word and the words after it.
--     no_memory      the answer where there is no memory
--     AnswersByCommand allowed old line text new      the answer to a line by its first word and the others
--         (`AnswersSplit`): none if it has no word; `error: not UTF-8` if it is not UTF-8 (`AnswersDecoded`)
use Rattle.std.specs.Prelude.{◌≡◌, ℕ, Bool, true, false, List, [], ◌∷◌, codes}
use Rattle.std.specs.Str.{is_utf8}
use Rattle.ivl_lines.specs.Lines.{with_newline, words_of}

abbrev pub no_memory : List ℕ
no_memory = with_newline (codes "error: out of memory")

-- by the words
abbrev pub AnswersSplit : {S : Type 0} → (S → List ℕ → List (List ℕ) → List ℕ → S → Type 0) → S → List (List ℕ) → List ℕ → S → Type 0
AnswersSplit allowed old [] text new = (text ≡ []) × (new ≡ old)
AnswersSplit allowed old (name ∷ words) text new = allowed old name words text new

-- by whether the line is UTF-8
abbrev pub AnswersDecoded : {S : Type 0} → (S → List ℕ → List (List ℕ) → List ℕ → S → Type 0) → S → List ℕ → Bool → List ℕ → S → Type 0
AnswersDecoded allowed old line true text new = AnswersSplit allowed old (words_of line) text new
AnswersDecoded allowed old line false text new = (text ≡ with_newline (codes "error: not UTF-8")) × (new ≡ old)

abbrev pub AnswersByCommand : {S : Type 0} → (S → List ℕ → List (List ℕ) → List ℕ → S → Type 0) → S → List ℕ → List ℕ → S → Type 0
AnswersByCommand allowed old line text new = AnswersDecoded allowed old line (is_utf8 line) text new
