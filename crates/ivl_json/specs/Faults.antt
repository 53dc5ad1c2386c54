-- The faults of intervals among those of `from_value`.
--     json_fault f      the fault of an interval's `from_value`: the one of the same name
use Rattle.ivl_json.specs.declared.faults.ItemFault.{ItemFault}
use Rattle.ivl_json.specs.declared.faults.JsonFault.{JsonFault}

abbrev pub json_fault : ItemFault → JsonFault
json_fault ItemFault.Shape = JsonFault.Shape
json_fault (ItemFault.Length n) = JsonFault.Length n
json_fault ItemFault.Number = JsonFault.Number
json_fault ItemFault.Range = JsonFault.Range
