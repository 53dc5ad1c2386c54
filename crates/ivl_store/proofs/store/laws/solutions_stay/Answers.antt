use Rattle.ivl_laws.specs.Families.{set_at}
use Rattle.ivl_store.proofs.Points.{solutions_kept}
use Rattle.ivl_store.proofs.store.laws.solutions_stay.Goals as goal

pub returns : goal.returns
returns c = λ constraints old new keeps. solutions_kept constraints (set_at old) (set_at new) keeps
