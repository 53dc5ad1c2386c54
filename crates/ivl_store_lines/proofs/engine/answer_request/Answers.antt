use Rattle.std.proofs.Common.{◌≡◌, ◌++◌, None, rules}
use Rattle.std.proofs.lemmas.Result.{on_ok_weaker}
use Rattle.ivl_store_lines.specs.Printed.{domain_lines, state_line}
use Rattle.ivl_store_lines.specs.Requests.{asked_of, show}
use Rattle.ivl_store_lines.proofs.Answering.{shown_reply}
use Rattle.ivl_store_lines.proofs.engine.answer_request.Goals as goal

pub returns-in-Show-None : goal.returns-in-Show-None
returns-in-Show-None g c =
    let is_show : asked_of c.args.request ≡ show None = search rules in
    on_ok_weaker c.write_shown.result
    (λ written. (domain_lines c.args.solver.now.names c.args.solver.now.domains ++ state_line c.args.solver.now.domains c.args.solver.now.progress, shown_reply _ _ is_show, written))
    c.write_shown.ensures
