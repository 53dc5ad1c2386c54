use Rattle.std.proofs.Common.{map}
use Rattle.std.specs.Prelude.{option_map, string_bytes}
use Rattle.std.proofs.lemmas.Result.{on_ok_weaker}
use Rattle.ivl_store_lines.specs.Faults.{told_of}
use Rattle.ivl_store_lines.specs.Printed.{told_line}
use Rattle.ivl_store_lines.specs.Solved.{best_text}
use Rattle.ivl_store_lines.proofs.Answering.{best_refused, best_shown}
use Rattle.ivl_store_lines.proofs.engine.answer_best.Goals as goal

pub returns-in-Ok : goal.returns-in-Ok
returns-in-Ok g c =
    let names = map string_bytes c.names.result.now in
    let found = option_map (λ point. point.items) c.in-Ok.best.point in
    on_ok_weaker c.write_best.result
    (λ written. (best_text names found c.in-Ok.best.end, best_shown c.args.extreme c.args.name.now c.args.solver.now names found c.in-Ok.best.end c.names.ensures c.in-Ok.ensures.best, written))
    c.write_best.ensures

pub returns-in-Err : goal.returns-in-Err
returns-in-Err g c =
    on_ok_weaker c.write_fault.result
    (λ written. (told_line (told_of c.in-Err.fault), best_refused c.args.extreme (told_of c.in-Err.fault) c.args.name.now c.args.solver.now c.in-Err.ensures.fault, written))
    c.write_fault.ensures
