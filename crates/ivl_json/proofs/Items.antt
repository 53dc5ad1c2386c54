-- Reading the items of a set's array one by one.
use Rattle.std.proofs.Common.{ℤ, List, ◌++◌}
use Rattle.std.specs.Prelude.{Result, Ok, Err}
use Rattle.ivl_json.specs.declared.faults.JsonFault.{JsonFault}

-- what the items after some pairs read as, with these pairs before them
abbrev pub after : List (ℤ × ℤ) → Result (List (ℤ × ℤ)) JsonFault → Result (List (ℤ × ℤ)) JsonFault
after ps (Ok qs) = Ok (ps ++ qs)
after ps (Err fault) = Err fault
