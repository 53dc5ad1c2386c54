use Rattle.std.proofs.Common.{None, ◌++◌, length, map}
use Rattle.std.specs.Prelude.{string_bytes}
use Rattle.std.proofs.lemmas.Result.{on_ok_weaker}
use Rattle.ivl_store_lines.specs.Solved.{end_line, point_lines}
use Rattle.ivl_store_lines.specs.Printed.{told_line}
use Rattle.ivl_store_lines.specs.Requests.{solve}
use Rattle.ivl_store_lines.proofs.Refusing.{no_memory_for}
use Rattle.ivl_store_lines.proofs.Answering.{solved}
use Rattle.ivl_store_lines.proofs.engine.answer_solve.Goals as goal

pub returns-in-Ok : goal.returns-in-Ok
returns-in-Ok g c =
    let names = map string_bytes c.names.result.now in
    let found = c.in-Ok.found in
    on_ok_weaker c.write_solutions.result
    (λ written. (
      point_lines names (map (λ point. point.items) found.points.items) ++ end_line (length found.points.items) found.end,
      solved (λ point. point.items) c.args.most c.args.solver.now names found.points.items found.end c.names.ensures c.in-Ok.ensures.finds c.in-Ok.ensures.at_most c.in-Ok.ensures.visited c.in-Ok.ensures.full c.in-Ok.ensures.known c.in-Ok.ensures.enough,
      written,
    ))
    c.write_solutions.ensures

pub returns-in-Err : goal.returns-in-Err
returns-in-Err g c =
    on_ok_weaker c.write_fault.result (λ written. (told_line None, no_memory_for (solve c.args.most) c.args.solver.now, written)) c.write_fault.ensures
