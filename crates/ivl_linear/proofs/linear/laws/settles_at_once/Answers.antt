use Rattle.ivl_laws.specs.Families.{set_at}
use Rattle.ivl_linear.proofs.Narrowings.{fixed_elsewhere, narrowed_fixed}
use Rattle.ivl_linear.proofs.linear.laws.settles_at_once.Goals as goal

pub returns : goal.returns
returns c = (λ terms relation old new later n w same. fixed_elsewhere terms relation (set_at new) (set_at later) w same (narrowed_fixed terms relation (set_at old) (set_at new) n))
