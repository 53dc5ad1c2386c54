use Rattle.ivl_laws.specs.Families.{set_at}
use Rattle.ivl_linear.proofs.Narrowings.{narrowing_keeps}
use Rattle.ivl_linear.proofs.linear.laws.keeps_supported.Goals as goal

pub returns : goal.returns
returns c = (λ terms relation family given. narrowing_keeps terms relation (set_at family) (set_at given))
