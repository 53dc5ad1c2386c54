-- What a JSON value reads as over a range: a bound, or an interval; else the fault for which it is refused.
--     bound_read whole d      the whole number of d if it is in the range; else `Number` if there is none, `Range` if
--         it lies outside
--     interval_read whole d      the two bounds of d, which may be crossed; null has the bounds 1 and 0; else the
--         fault: `Shape`, then `Length`, then that of the first element, then that of the second
--     Reads whole d S      d reads as an interval that has the members of S
--     elements_read      the elements of an array as two bounds, or a wrong count, whatever they are
--     count_of items      how many there are
use Rattle.std.specs.Prelude.{◌≡◌, ℕ, suc, ℤ, pos, ◌&&◌, int_le, if◌then◌else◌, Option, None, Some, option_and_then, Result, Ok, Err}
use Rattle.serde_json.specs.Data.{Data, null, boolean, number, string, array, object, Items, no_items, item}
use Rattle.serde_json.specs.Find.{as_number, as_integer}
use Rattle.ivl_laws.specs.Sets.{IsBetween, SameMembers}
use Rattle.ivl_json.specs.declared.faults.ItemFault.{ItemFault}

abbrev pub within : ℤ × ℤ → Option ℤ → Result ℤ ItemFault
within whole None = Err ItemFault.Number
within whole (Some z) = if int_le whole.0 z && int_le z whole.1 then Ok z else Err ItemFault.Range

-- an element that holds no whole number of 64 bits, as 1.0 or "1", is refused before its range is asked
abbrev pub bound_read : ℤ × ℤ → Data → Result ℤ ItemFault
bound_read whole d = within whole (option_and_then as_integer (as_number d))

-- the first fault comes first
abbrev pub both_read : Result ℤ ItemFault → Result ℤ ItemFault → Result (ℤ × ℤ) ItemFault
both_read (Err fault) second = Err fault
both_read (Ok lower) (Err fault) = Err fault
both_read (Ok lower) (Ok upper) = Ok (lower, upper)

abbrev pub count_of : Items → ℕ
count_of no_items = 0
count_of (item d ds) = suc (count_of ds)

abbrev pub elements_read : ℤ × ℤ → Items → Result (ℤ × ℤ) ItemFault
elements_read whole no_items = Err (ItemFault.Length 0)
elements_read whole (item first no_items) = Err (ItemFault.Length 1)
elements_read whole (item first (item second no_items)) = both_read (bound_read whole first) (bound_read whole second)
elements_read whole (item first (item second (item third more))) = Err (ItemFault.Length (suc (suc (suc (count_of more)))))

abbrev pub interval_read : ℤ × ℤ → Data → Result (ℤ × ℤ) ItemFault
interval_read whole null = Ok (pos 1, pos 0)
interval_read whole (boolean b) = Err ItemFault.Shape
interval_read whole (number n) = Err ItemFault.Shape
interval_read whole (string s) = Err ItemFault.Shape
interval_read whole (array ds) = elements_read whole ds
interval_read whole (object ms) = Err ItemFault.Shape

abbrev pub Reads : ℤ × ℤ → Data → (ℤ → Type 0) → Type 0
Reads whole d S = (p : ℤ × ℤ) × (interval_read whole d ≡ Ok p) × SameMembers (IsBetween p) S
