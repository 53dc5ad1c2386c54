-- The runs of a set that meet a window.
--     OfRunsThatMeet W S      the members of S that lie in one run with some member of W
use Rattle.std.specs.Prelude.{ℤ}
use Rattle.ivl_laws.specs.Sets.{InOneRun}

abbrev pub OfRunsThatMeet : (ℤ → Type 0) → (ℤ → Type 0) → ℤ → Type 0
OfRunsThatMeet W S z = (y : ℤ) × W y × InOneRun S y z
