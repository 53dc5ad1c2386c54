use Rattle.std.proofs.Common.{refl}
use Rattle.std.proofs.lemmas.Fn.{says_at_two}
use Rattle.std.proofs.lemmas.Result.{on_ok_weaker}
use Rattle.ivl_map.proofs.merge.push_common.Goals as goal

pub returns : goal.returns
returns g c = on_ok_weaker c.push_entry.result (λ h. (c.in_ok-made.made, (λ k. says_at_two g.F.Fn c.in_ok-made.ensures refl), h)) c.push_entry.ensures.ok
