use Rattle.ivl_laws.specs.Families.{set_at}
use Rattle.ivl_linear.proofs.Narrowings.{point_kept}
use Rattle.ivl_linear.proofs.linear.laws.keeps_points.Goals as goal

pub returns : goal.returns
returns c = (λ terms relation old new. point_kept terms relation (set_at old) (set_at new))
