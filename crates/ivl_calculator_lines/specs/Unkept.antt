-- A `set` whose pairs were read, for which there was no memory.
--     IsUnkept unkept reading      what is said is to set this register to some pairs, and whether all of these are in range
--     why_unkept count unkept      why it is refused, by how many registers there are
use Rattle.std.specs.Prelude.{◌≡◌, ℕ, ℤ, List, if◌then◌else◌, nat_lt}
use Rattle.std.specs.List.{list_all}
use Rattle.ivl_lines.specs.Numbers.{is_in_range}
use Rattle.ivl_calculator.specs.Actions.{make, pairs}
use Rattle.ivl_calculator.specs.declared.reply.Refusal.{Refusal}
use Rattle.ivl_calculator.specs.declared.reply.Refusal.TheVariants.{Register, Range, Memory}
use Rattle.ivl_calculator_lines.specs.Reading.{Reading, command}
use Rattle.ivl_calculator_lines.specs.declared.lines.Unkept.{Unkept}

abbrev pub IsUnkept : Unkept → Reading → Type 0
IsUnkept unkept reading =
    (list : List (ℤ × ℤ)) × (reading ≡ command (make unkept.register (pairs list))) × (unkept.in_range ≡ list_all is_in_range list)

abbrev pub why_unkept : ℕ → Unkept → Refusal
why_unkept count unkept = if nat_lt unkept.register count then (if unkept.in_range then Memory else Range) else Register
