-- How a program ends.
--     outcome_of ended      the status of a program, and what it says, or nothing
--     fault_said fault      what it says of a fault, after its name
use Rattle.std.specs.Prelude.{ℕ, List, [], codes, Result, Ok, Err}
use Rattle.ivl_lines.specs.declared.session.SessionFault.{SessionFault}
use Rattle.ivl_lines.specs.declared.session.SessionFault.TheVariants.{Read, Write, Memory}

abbrev pub fault_said : SessionFault → List ℕ
fault_said Read = codes "read failed"
fault_said Write = codes "write failed"
fault_said Memory = codes "out of memory"

abbrev pub outcome_of : Result (Unit {0}) SessionFault → ℕ × List ℕ
outcome_of (Ok done) = (0, [])
outcome_of (Err fault) = (1, fault_said fault)
