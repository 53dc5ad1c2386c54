use Rattle.ivl_laws.specs.Families.{set_at}
use Rattle.ivl_linear.proofs.Narrowings.{NarrowedByLinear-mono}
use Rattle.ivl_linear.proofs.linear.laws.is_monotone.Goals as goal

pub returns : goal.returns
returns c = (λ terms relation inner outer. NarrowedByLinear-mono terms relation (set_at inner) (set_at outer))
