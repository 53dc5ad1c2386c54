-- The words of a text, which stand between spaces.
--     words_between text      the pieces between spaces that are not empty
use Rattle.std.specs.Prelude.{ℕ, Bool, List, length, filter, nat_lt, ◌==◌}
use Rattle.std.specs.List.{slice_split}

abbrev pub is_not_empty : List ℕ → Bool
is_not_empty word = nat_lt 0 (length word)

abbrev pub words_between : List ℕ → List (List ℕ)
words_between text = filter is_not_empty (slice_split (λ b. b == 32) text)
