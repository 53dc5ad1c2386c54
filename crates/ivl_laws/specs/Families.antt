-- Lists of sets, each given by the list of its runs.
--     set_at sets i      the members of set i; none where there is no such set
use Rattle.std.specs.Prelude.{ℕ, ℤ, List, [], slice_index_or}
use Rattle.ivl_laws.specs.Runs.{Covers}

abbrev pub set_at : List (List (ℤ × ℤ)) → ℕ → ℤ → Type 0
set_at sets i = Covers (slice_index_or sets i [])
