-- The text of an interval.
--     interval_text p lower upper      `{}` for a crossed pair, else the texts of the bounds as in `[1..5]`; none if
--         a bound has none
--     styled_interval_text p      what is said of the text under other options of a formatter: `{}` for a crossed
--         pair
use Rattle.std.specs.Prelude.{ℕ, ℤ, int_lt, if◌then◌else◌, List, Option, None, Some, codes}
use Rattle.std.specs.Fmt.{◌++?◌}

abbrev pub interval_text : ℤ × ℤ → Option (List ℕ) → Option (List ℕ) → Option (List ℕ)
interval_text p lower upper = if int_lt p.1 p.0 then Some (codes "{}") else (Some (codes "[") ++? lower ++? Some (codes "..") ++? upper ++? Some (codes "]"))

abbrev pub styled_interval_text : ℤ × ℤ → Option (List ℕ)
styled_interval_text p = if int_lt p.1 p.0 then Some (codes "{}") else None
