use Rattle.std.proofs.KnownBytes.{Appends-trans}
use Rattle.std.proofs.lemmas.Result.{on_ok_weaker}
use Rattle.ivl_store_lines.proofs.replies.write_shown.Goals as goal

pub returns : goal.returns
returns g c =
    let lines = c.in_ok-write_domains.ensures in
    on_ok_weaker c.write_state.result (λ written. Appends-trans _ _ _ _ _ (rw (← c.names.ensures, ← c.domains.ensures) lines) written) c.write_state.ensures
