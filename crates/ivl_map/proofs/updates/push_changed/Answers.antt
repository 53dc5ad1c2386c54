use Rattle.std.proofs.Common.{refl}
use Rattle.std.proofs.lemmas.Fn.{says_at}
use Rattle.std.proofs.lemmas.Result.{on_ok_weaker}
use Rattle.ivl_map.proofs.updates.push_changed.Goals as goal

pub returns : goal.returns
returns g c = on_ok_weaker c.push_entry.result (λ h. (c.in_ok-changed.changed, (λ k. says_at g.F.Fn c.in_ok-changed.ensures refl), h)) c.push_entry.ensures.ok
