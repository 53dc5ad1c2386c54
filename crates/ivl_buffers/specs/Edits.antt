-- A run added to the members of a list, or removed from them.
--     EditedBy editing p S      S with the numbers of p, or without them
use Rattle.std.specs.Prelude.{ℤ}
use Rattle.ivl_laws.specs.Sets.{IsBetween, Union, Without}
use Rattle.ivl_buffers.specs.declared.edits.Editing.{Editing}
use Rattle.ivl_buffers.specs.declared.edits.Editing.TheVariants.{Insert, Remove}

abbrev pub EditedBy : Editing → ℤ × ℤ → (ℤ → Type 0) → ℤ → Type 0
EditedBy Insert p S = Union S (IsBetween p)
EditedBy Remove p S = Without S (IsBetween p)
