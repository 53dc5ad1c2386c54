use Rattle.ivl_laws.specs.Families.{set_at}
use Rattle.ivl_store.proofs.Points.{family_of, family-solved, family-point, family-supported, family-within}
use Rattle.ivl_store.proofs.store.laws.solution_is_family.Goals as goal

pub returns : goal.returns
returns c = λ constraints domains point h. (
  family_of constraints point,
  record { solved = family-solved constraints (set_at domains) point h; only = family-point constraints point },
  family-supported constraints (set_at domains) point h,
  family-within constraints (set_at domains) point h,
)
