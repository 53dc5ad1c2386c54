-- The JSON of a bound, of an interval, and of a set by its list of runs.
--     bound_json z      the number z
--     interval_json p      null for no member, else an array of the two bounds
--     set_json L      null for no run, else an array of the runs
use Rattle.std.specs.Prelude.{ℤ, int_lt, if◌then◌else◌, List, [], ◌∷◌, map}
use Rattle.serde_json.specs.Data.{Data, null, number, array, no_items, item}
use Rattle.serde_json.specs.Find.{of_integer}
use Rattle.serde_json.specs.View.{items_of}

abbrev pub bound_json : ℤ → Data
bound_json z = number (of_integer z)

abbrev pub interval_json : ℤ × ℤ → Data
interval_json p = if int_lt p.1 p.0 then null else array (item (bound_json p.0) (item (bound_json p.1) no_items))

abbrev pub set_json : List (ℤ × ℤ) → Data
set_json [] = null
set_json (p ∷ L) = array (items_of (map interval_json (p ∷ L)))
