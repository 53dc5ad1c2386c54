use Rattle.std.proofs.Common.{◌≡◌, true, false, ◌∙◌, subst}
use Rattle.std.specs.List.{list_any}
use Rattle.std.specs.Prelude.{OnOk}
use Rattle.std.specs.Io.KnownBytes.{Appends}
use Rattle.ivl_lines.specs.Lines.{with_newline}
use Rattle.ivl_store_lines.specs.declared.progress.Progress.{Progress}
use Rattle.ivl_store.specs.Posts.{has_no_run}
use Rattle.ivl_store_lines.specs.Printed.{progress_text}
use Rattle.ivl_store_lines.proofs.Printing.{some_empty}
use Rattle.ivl_store_lines.proofs.replies.write_state.Goals as goal

pub returns-then-has_empty : goal.returns-then-has_empty
returns-then-has_empty g c =
    let some : list_any has_no_run c.args.solver.now.domains ≡ true = some_empty c.has_empty.result _ c.has_empty.ensures ∙ c.if-has_empty.true in
    rw some c.write_all.ensures.bytes

pub returns-else-has_empty : goal.returns-else-has_empty
returns-else-has_empty g c =
    let none : list_any has_no_run c.args.solver.now.domains ≡ false = some_empty c.has_empty.result _ c.has_empty.ensures ∙ c.if-has_empty.false in
    rw none (subst (λ (p : Progress). OnOk c.write_progress.result (Appends (g.W.Write.contents c.args.writer.now) (g.W.Write.contents c.write_progress.new.writer) (with_newline (progress_text p)))) c.progress.ensures c.write_progress.ensures)
