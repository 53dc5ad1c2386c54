use Rattle.ivl_laws.proofs.Spans.{hull_is_span}
use Rattle.ivl_set_laws.proofs.hulls.hull_is_span.Goals as goal

pub returns : goal.returns
returns g c = hull_is_span g.S.NumberSet.members
