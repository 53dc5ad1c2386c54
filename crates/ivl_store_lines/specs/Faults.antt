-- A fault of a line, by the words that it is told with.
--     told_of fault      the fault as it is told; `None` if it is want of memory, which is no fault of the line
--     Told      a fault by the words that it is reported with: `no_text`, `no_command`, `no_form`, `no_number`,
--         `out_of_range`, `unknown`, `defined`, `repeated`, `numeral`, `crossed`
use Rattle.std.specs.Prelude.{ℕ, ℤ, List, Option, None, Some}
use Rattle.ivl_store_lines.specs.declared.fault.Fault.{Fault}
use Rattle.ivl_store_lines.specs.declared.fault.Fault.TheVariants.{Bytes, Command, Form, Number, Range, Unknown, Defined, Repeated, Numeral, Crossed, Memory}

pub data Told : Type 0 where
  no_text : Told
  no_command : List ℕ → Told
  no_form : List ℕ → Told
  no_number : List ℕ → Told
  out_of_range : Told
  unknown : List ℕ → Told
  defined : List ℕ → Told
  repeated : List ℕ → Told
  numeral : List ℕ → Told
  crossed : ℤ → ℤ → Told

abbrev pub told_of : Fault → Option Told
told_of Bytes = Some no_text
told_of (Command word) = Some (no_command word.now)
told_of (Form form) = Some (no_form form.now)
told_of (Number word) = Some (no_number word.now)
told_of Range = Some out_of_range
told_of (Unknown name) = Some (unknown name.now)
told_of (Defined name) = Some (defined name.now)
told_of (Repeated name) = Some (repeated name.now)
told_of (Numeral name) = Some (numeral name.now)
told_of (Crossed lower upper) = Some (crossed lower upper)
told_of Memory = None
