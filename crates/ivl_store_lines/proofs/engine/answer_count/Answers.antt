use Rattle.std.proofs.Common.{None, ◌++◌}
use Rattle.std.proofs.lemmas.Result.{on_ok_weaker}
use Rattle.ivl_store_lines.specs.Solved.{count_line, end_line}
use Rattle.ivl_store_lines.specs.Printed.{told_line}
use Rattle.ivl_store_lines.specs.Requests.{count}
use Rattle.ivl_store_lines.proofs.Refusing.{no_memory_for}
use Rattle.ivl_store_lines.proofs.Answering.{counted}
use Rattle.ivl_store_lines.proofs.engine.answer_count.Goals as goal

pub returns-in-Ok : goal.returns-in-Ok
returns-in-Ok g c =
    let found = c.in-Ok.found in
    let points = c.in-Ok.ensures.found in
    on_ok_weaker c.write_count.result
    (λ written. (
      count_line found c.in-Ok.end ++ end_line found c.in-Ok.end,
      counted c.args.solver.now points.0 found c.in-Ok.end points.1 points.2 c.in-Ok.ensures.visited c.in-Ok.ensures.full c.in-Ok.ensures.known c.in-Ok.ensures.enough,
      written,
    ))
    c.write_count.ensures

pub returns-in-Err : goal.returns-in-Err
returns-in-Err g c =
    on_ok_weaker c.write_fault.result (λ written. (told_line None, no_memory_for (count) c.args.solver.now, written)) c.write_fault.ensures
