-- What the code's words for an operation stand for.
--     of_two op a b      made of two registers
--     of_part side a v      made of one register, cut at a value
--     of_value op a v      made of one register and a value
--     MergedBy merge S T, PartBy part v S      the members of what is made
use Rattle.std.specs.Prelude.{ℕ, ℤ}
use Rattle.ivl_laws.specs.Sets.{Union, Intersection, Without, SymmetricDifference, AtLeast, AtMost, Above, Below}
use Rattle.ivl_images.specs.declared.op.Op.{Op}
use Rattle.ivl_images.specs.declared.op.Op.TheVariants as ops
use Rattle.ivl_calculator.specs.declared.calc.writes.Merge.{Merge}
use Rattle.ivl_calculator.specs.declared.calc.writes.Merge.TheVariants as merges
use Rattle.ivl_calculator.specs.declared.calc.writes.Part.{Part}
use Rattle.ivl_calculator.specs.declared.calc.writes.Part.TheVariants as parts
use Rattle.ivl_calculator.specs.Actions.{Making, union, intersection, difference, symmetric, at_least, at_most, above, below, plus_value, minus_value, times_value}

abbrev pub of_two : Merge → ℕ → ℕ → Making
of_two merges.Union = union
of_two merges.Intersection = intersection
of_two merges.Difference = difference
of_two merges.SymmetricDifference = symmetric

abbrev pub of_part : Part → ℕ → ℤ → Making
of_part parts.AtLeast = at_least
of_part parts.AtMost = at_most
of_part parts.Above = above
of_part parts.Below = below

abbrev pub of_value : Op → ℕ → ℤ → Making
of_value ops.Sum = plus_value
of_value ops.Difference = minus_value
of_value ops.Product = times_value

abbrev pub MergedBy : Merge → (ℤ → Type 0) → (ℤ → Type 0) → ℤ → Type 0
MergedBy merges.Union = Union
MergedBy merges.Intersection = Intersection
MergedBy merges.Difference = Without
MergedBy merges.SymmetricDifference = SymmetricDifference

abbrev pub PartBy : Part → ℤ → (ℤ → Type 0) → ℤ → Type 0
PartBy parts.AtLeast = AtLeast
PartBy parts.AtMost = AtMost
PartBy parts.Above = Above
PartBy parts.Below = Below
