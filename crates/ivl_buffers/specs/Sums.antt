-- Sums and differences of the members of two lists.
--     AddedBy whole adding S T      the sums or differences of a member of each that are in the range
use Rattle.std.specs.Prelude.{ℤ}
use Rattle.ivl_laws.specs.Sets.{Differences, Intersection, IsBetween, Sums}
use Rattle.ivl_buffers.specs.declared.sums.Adding.{Adding}
use Rattle.ivl_buffers.specs.declared.sums.Adding.TheVariants.{Sum, Difference}

abbrev pub AddedBy : ℤ × ℤ → Adding → (ℤ → Type 0) → (ℤ → Type 0) → ℤ → Type 0
AddedBy whole Sum S T = Intersection (Sums S T) (IsBetween whole)
AddedBy whole Difference S T = Intersection (Differences S T) (IsBetween whole)
