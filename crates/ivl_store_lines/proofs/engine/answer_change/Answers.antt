use Rattle.std.proofs.Common.{inl}
use Rattle.std.proofs.lemmas.Result.{on_ok_weaker}
use Rattle.ivl_store_lines.specs.Faults.{told_of}
use Rattle.ivl_store_lines.specs.Printed.{told_line, state_line}
use Rattle.ivl_store_lines.proofs.Answering.{refused}
use Rattle.ivl_store_lines.proofs.engine.answer_change.Goals as goal

pub returns-in-Ok : goal.returns-in-Ok
returns-in-Ok g c =
    on_ok_weaker c.write_state.result
    (λ written. (state_line c.carry_out.new.self.domains c.carry_out.new.self.progress, inl (c.in-Ok.ensures.no_fault, c.in-Ok.ensures.carried, c.requires c.carry_out.new.self), written))
    c.write_state.ensures

pub returns-in-Err : goal.returns-in-Err
returns-in-Err g c =
    on_ok_weaker c.write_fault.result
    (λ written. (told_line (told_of c.in-Err.fault), refused _ _ _ _ c.in-Err.ensures.fault c.in-Err.ensures.refused, written))
    c.write_fault.ensures
