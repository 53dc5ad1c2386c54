use Rattle.std.proofs.Common.{map, subst}
use Rattle.std.proofs.lemmas.Result.{IfOk-weaker}
use Rattle.ivl_laws.specs.Runs.{Covers, IsRunsOf}
use Rattle.intervallum.proofs.interval_set.conversions.VecTuple2ToIntervalSet.to_interval_set.Goals as goal

pub returns : goal.returns
returns g c = IfOk-weaker c.of_pairs.result _ _ (λ L h.
    subst (λ xs. IsRunsOf L (Covers (map (λ p. (g.B.Width.value p.0, g.B.Width.value p.1)) xs))) c.as_slice.ensures.value h) c.of_pairs.ensures
