use Rattle.ivl_laws.specs.Runs.{Covers}
use Rattle.ivl_laws.proofs.Lengths.{decide_covers}
use Rattle.ivl_laws.proofs.SetLaws.{complement_twice}
use Rattle.ivl_set_laws.proofs.algebra.complement_twice.Goals as goal

pub returns : goal.returns
returns c = λ whole L. complement_twice (Covers L) whole (decide_covers L)
