use Rattle.std.proofs.Common.{◌++◌}
use Rattle.std.proofs.KnownBytes.{Appends-trans}
use Rattle.std.proofs.lemmas.Result.{on_ok_weaker}
use Rattle.ivl_store_lines.specs.Printed.{domain_line, state_line}
use Rattle.ivl_store_lines.proofs.Answering.{variable_shown}
use Rattle.ivl_store_lines.proofs.replies.write_variable.Goals as goal

pub returns-in_ok-write_domain-in-Ok : goal.returns-in_ok-write_domain-in-Ok
returns-in_ok-write_domain-in-Ok g c =
    let solver = c.args.solver.now in
    on_ok_weaker c.write_state.result
    (λ written. (
      domain_line c.args.name.now c.in-Ok.domain.now ++ state_line solver.domains solver.progress,
      variable_shown c.args.name.now solver c.in-Ok.domain.now c.in-Ok.ensures.domain,
      Appends-trans _ _ _ _ _ c.in_ok-write_domain-in-Ok.ensures written,
    ))
    c.write_state.ensures
