use Rattle.std.proofs.Common.{Ok, Err, Result}
use Rattle.std.specs.Prelude.{OnOk}
use Rattle.std.proofs.KnownBytes.{Appends-kept}
use Rattle.ivl_lines.proofs.session.finish.Goals as goal

on_ok : {T E P : Type 0} (r : Result T E) → P → OnOk r P
on_ok (Ok x) h = h
on_ok (Err e) h = tt

-- the flush adds no byte
pub returns-clause-ok : goal.returns-clause-ok
returns-clause-ok g c =
    on_ok c.flush.result
    (λ line begun.
    let answered = c.in_ok-answer_begun.ensures.ok line begun in
    (answered.0, answered.1, Appends-kept _ _ _ answered.0 answered.2 c.flush.ensures.kept))
