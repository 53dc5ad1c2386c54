use Rattle.std.proofs.lemmas.Result.{on_ok_weaker}
use Rattle.ivl_lines.specs.Words.{words_between}
use Rattle.ivl_store_lines.specs.Faults.{told_of}
use Rattle.ivl_store_lines.specs.Printed.{told_line}
use Rattle.ivl_store_lines.proofs.Answering.{no_request}
use Rattle.ivl_store_lines.proofs.engine.answer_text.Goals as goal

pub returns-in-Err : goal.returns-in-Err
returns-in-Err g c =
    let words = words_between c.in-Some.words.now in
    rw c.in-Some.ensures.some (
    on_ok_weaker c.write_fault.result
    (λ written. (
      told_line (told_of c.in-Err.fault),
      no_request _ c.in-Some.name.now words _ c.args.solver.now c.in-Err.ensures.refused c.in-Err.ensures.fault c.in-Err.ensures.memory,
      written,
    ))
    c.write_fault.ensures
    )
