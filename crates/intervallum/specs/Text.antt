-- The text of a set, from the text of each of its runs.
--     runs_text text L      the texts of the runs, one after the other
--     set_text text L      the text of a set: `{}`, one run alone, or the runs between braces
--     styled_set_text L      what is said of the text under other options of a formatter: `{}` for no run
use Rattle.std.specs.Prelude.{ℕ, ℤ, List, [], ◌∷◌, Option, None, Some, codes}
use Rattle.std.specs.Fmt.{◌++?◌}

abbrev pub runs_text : (ℤ × ℤ → Option (List ℕ)) → List (ℤ × ℤ) → Option (List ℕ)
runs_text text [] = Some []
runs_text text (p ∷ L) = text p ++? runs_text text L

abbrev pub set_text : (ℤ × ℤ → Option (List ℕ)) → List (ℤ × ℤ) → Option (List ℕ)
set_text text [] = Some (codes "{}")
set_text text (p ∷ []) = text p
set_text text (p ∷ q ∷ L) = Some (codes "{") ++? runs_text text (p ∷ q ∷ L) ++? Some (codes "}")

abbrev pub styled_set_text : List (ℤ × ℤ) → Option (List ℕ)
styled_set_text [] = Some (codes "{}")
styled_set_text (p ∷ L) = None
