-- What the arguments of a program ask for: its first argument, and whether there are more.
--     started_by first has_more      what the arguments of a program ask for: `Lines` without any, `Help`, `Version`,
--         or `Other`
use Rattle.std.specs.Prelude.{ℕ, Bool, true, false, List, Option, None, Some, bytes_eq, codes, if◌then◌else◌}
use Rattle.ivl_lines.specs.declared.arguments.Start.{Start}
use Rattle.ivl_lines.specs.declared.arguments.Start.TheVariants.{Lines, Help, Version, Other}

abbrev pub started_by : Option (List ℕ) → Bool → Start
started_by None has_more = Lines
started_by (Some word) true = Other
started_by (Some word) false =
    if bytes_eq word (codes "--help") then Help
    else if bytes_eq word (codes "--version") then Version
    else Other
