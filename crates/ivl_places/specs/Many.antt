-- Many sets at once, each a list of runs.
--     IsInSome Ls z      some list of the lists covers z
--     IsInEach Ls z      each list of the lists covers z
use Rattle.std.specs.Prelude.{ℤ, ◌⊎◌, List, [], ◌∷◌}
use Rattle.ivl_laws.specs.Runs.{Covers}

abbrev pub IsInSome : List (List (ℤ × ℤ)) → ℤ → Type 0
IsInSome [] z = ⊥
IsInSome (L ∷ Ls) z = Covers L z ⊎ IsInSome Ls z

abbrev pub IsInEach : List (List (ℤ × ℤ)) → ℤ → Type 0
IsInEach [] z = Unit {0}
IsInEach (L ∷ Ls) z = Covers L z × IsInEach Ls z
