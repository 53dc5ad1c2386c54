-- The text of a set, as the list of its runs.
--     run_text p      one run, as `[l..u]`
--     pairs_text list      the runs one after the other, in braces unless there is just one
use Rattle.std.specs.Prelude.{ℕ, ℤ, List, [], ◌∷◌, ◌++◌, codes, flat_map}
use Rattle.std.specs.Fmt.{signed_decimal}

abbrev pub run_text : ℤ × ℤ → List ℕ
run_text p = codes "[" ++ signed_decimal p.0 ++ codes ".." ++ signed_decimal p.1 ++ codes "]"

abbrev pub pairs_text : List (ℤ × ℤ) → List ℕ
pairs_text (p ∷ []) = run_text p
pairs_text list = codes "{" ++ flat_map run_text list ++ codes "}"
