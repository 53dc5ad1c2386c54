use Rattle.ivl_laws.specs.Runs.{Covers}
use Rattle.ivl_laws.proofs.Lengths.{decide_covers}
use Rattle.ivl_laws.proofs.SetLaws.{complement-intersection}
use Rattle.ivl_set_laws.proofs.algebra.complement_of_intersection.Goals as goal

pub returns : goal.returns
returns c = λ whole L M. complement-intersection (Covers L) (Covers M) whole (decide_covers L)
