use Rattle.std.proofs.Common.{sym}
use Rattle.std.proofs.lemmas.Result.{on_ok_weaker}
use Rattle.ivl_calendar.proofs.Answering.{gap_days, gap_told, no_memory_gap, unknown_gap}
use Rattle.ivl_calendar.proofs.engine.show_gap.Goals as goal

pub returns-in_default : goal.returns-in_default
returns-in_default g c =
    on_ok_weaker c.write_fault.result
    (λ written. (_, unknown_gap c.args.calendar.now c.args.asked.now.name.now c.args.asked.now.count c.args.asked.now.window (sym c.in_default.ensures), written))
    c.write_fault.ensures

pub write_gap-requires : goal.write_gap-requires
write_gap-requires g c =
    let days = gap_days c.args.asked.now.count c.args.asked.now.window c.in-Some.room.now c.requires.above c.requires.bound c.in-Ok.gap c.in-Ok.ensures in
    record { order = days.0; first = days.1; last = days.2 }

pub returns-in-Ok : goal.returns-in-Ok
returns-in-Ok g c =
    on_ok_weaker c.write_gap.result
    (λ told. (_, gap_told c.args.calendar.now c.args.asked.now.name.now c.args.asked.now.count c.args.asked.now.window c.in-Some.room.now c.in-Ok.gap told.0 (sym c.in-Some.ensures) c.in-Ok.ensures told.1, told.2))
    c.write_gap.ensures

pub returns-in-Err : goal.returns-in-Err
returns-in-Err g c =
    on_ok_weaker c.write_fault-in-Err.result
    (λ written. (_, no_memory_gap c.args.calendar.now c.args.asked.now.name.now c.args.asked.now.count c.args.asked.now.window c.in-Some.room.now (sym c.in-Some.ensures), written))
    c.write_fault-in-Err.ensures
