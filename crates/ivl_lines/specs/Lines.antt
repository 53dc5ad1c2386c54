-- The lines of some bytes, and the words of a line.
--     lines_of bytes      the pieces between newlines: one more than there are newlines
--     ended_lines_of bytes      those that a newline ended
--     words_of line      the words of a line, less a carriage return at its end
--     first_of words, first_word_of line      the first of the words, or nothing if there is none
--     with_newline text      the text and a newline
use Rattle.std.specs.Prelude.{ℕ, List, [], ◌∷◌, ◌++◌, ◌==◌}
use Rattle.std.specs.List.{slice_split}
use Rattle.std.specs.Str.Lines.{strip_carriage_return}
use Rattle.ivl_lines.specs.Words.{words_between}

abbrev pub lines_of : List ℕ → List (List ℕ)
lines_of bytes = slice_split (λ b. b == 10) bytes

-- all but the last
abbrev pub all_but_last : List (List ℕ) → List (List ℕ)
all_but_last [] = []
all_but_last (x ∷ []) = []
all_but_last (x ∷ y ∷ more) = x ∷ all_but_last (y ∷ more)

abbrev pub ended_lines_of : List ℕ → List (List ℕ)
ended_lines_of bytes = all_but_last (lines_of bytes)

abbrev pub words_of : List ℕ → List (List ℕ)
words_of line = words_between (strip_carriage_return line)

abbrev pub first_of : List (List ℕ) → List ℕ
first_of [] = []
first_of (word ∷ words) = word

abbrev pub first_word_of : List ℕ → List ℕ
first_word_of line = first_of (words_of line)

abbrev pub with_newline : List ℕ → List ℕ
with_newline text = text ++ 10 ∷ []
