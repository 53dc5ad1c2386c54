-- What a JSON value reads as over a range: a set; else the fault for which it is refused.
--     items_read whole i ds      the pairs of items that stand from place i on; the first faulty item comes first, with its place
--     set_read whole d      the pairs of the items of d, in their order; none for null; else `Shape`, or the first
--         fault of an item with its place
--     SetReads whole d S      d reads as a set that has the members of S
use Rattle.std.specs.Prelude.{◌≡◌, ℕ, suc, ℤ, List, [], ◌∷◌, Result, Ok, Err}
use Rattle.serde_json.specs.Data.{Data, null, boolean, number, string, array, object, Items, no_items, item}
use Rattle.ivl_laws.specs.Sets.{SameMembers}
use Rattle.ivl_laws.specs.Runs.{Covers}
use Rattle.ivl_json.specs.Reading.{interval_read}
use Rattle.ivl_json.specs.declared.faults.ItemFault.{ItemFault}
use Rattle.ivl_json.specs.declared.faults.JsonFault.{JsonFault}

-- item i, and those after it
abbrev pub item_then : ℕ → Result (ℤ × ℤ) ItemFault → Result (List (ℤ × ℤ)) JsonFault → Result (List (ℤ × ℤ)) JsonFault
item_then i (Err fault) rest = Err (JsonFault.At i fault)
item_then i (Ok p) (Err fault) = Err fault
item_then i (Ok p) (Ok ps) = Ok (p ∷ ps)

abbrev pub items_read : ℤ × ℤ → ℕ → Items → Result (List (ℤ × ℤ)) JsonFault
items_read whole i no_items = Ok []
items_read whole i (item d ds) = item_then i (interval_read whole d) (items_read whole (suc i) ds)

abbrev pub set_read : ℤ × ℤ → Data → Result (List (ℤ × ℤ)) JsonFault
set_read whole null = Ok []
set_read whole (boolean b) = Err JsonFault.Shape
set_read whole (number n) = Err JsonFault.Shape
set_read whole (string s) = Err JsonFault.Shape
set_read whole (array ds) = items_read whole 0 ds
set_read whole (object ms) = Err JsonFault.Shape

abbrev pub SetReads : ℤ × ℤ → Data → (ℤ → Type 0) → Type 0
SetReads whole d S = (pairs : List (ℤ × ℤ)) × (set_read whole d ≡ Ok pairs) × SameMembers (Covers pairs) S
