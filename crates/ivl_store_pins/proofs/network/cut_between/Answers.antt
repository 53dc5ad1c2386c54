use Rattle.std.proofs.Common.{refl}
use Rattle.std.proofs.lemmas.Result.{on_ok_weaker}
use Rattle.ivl_store_pins.proofs.network.cut_between.Goals as goal

pub returns-clause-cut : goal.returns-clause-cut
returns-clause-cut g c = on_ok_weaker c.restrict_to_interval.result (λ cut v. (
  (λ after. let held = (cut c.args.variable v).0 after in (held.0, held.1 refl)),
  (λ held. (cut c.args.variable v).1 (held.0, λ same. held.1)),
)) c.restrict_to_interval.ensures.cut
