-- Operations on two sets.
--     KeptBy op S T      the members that the operation keeps
use Rattle.std.specs.Prelude.{ℤ}
use Rattle.ivl_laws.specs.Sets.{Intersection, SymmetricDifference, Union, Without}
use Rattle.ivl_paged.specs.declared.combine.Operation.{Operation}
use Rattle.ivl_paged.specs.declared.combine.Operation.TheVariants.{Either, Both, FirstAlone, OneAlone}

abbrev pub KeptBy : Operation → (ℤ → Type 0) → (ℤ → Type 0) → ℤ → Type 0
KeptBy Either = Union
KeptBy Both = Intersection
KeptBy FirstAlone = Without
KeptBy OneAlone = SymmetricDifference
