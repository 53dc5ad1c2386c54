-- What narrowing by constraints leaves of a family of sets.
--     Narrowed c sets      `x` keeps its members in the differences of `z` and `y`, `y` those in the differences of
--         `z` and `x`, `z` those in the sums, all over the old sets; a variable in two places takes the rule of its
--         last
--     IsFixed sets c      narrowing by the constraint changes nothing
--     Keeps cs old new      domains only lost members, and no supported family lost one
--     AllPresent count c      x, y and z are among the first `count` variables
--     first_unknown count c      the first of x, y and z that is not below the count; `None` if all are
--     first_unknown_of count cs      the first such index in list order; `None` if there is none
use Rattle.std.specs.Prelude.{◌≡◌, ◌≢◌, ℕ, ℤ, ◌<◌, List, [], ◌∷◌, Option, Some, None, nat_le, if◌then◌else◌}
use Rattle.std.specs.Option.{option_or}
use Rattle.ivl_laws.specs.Sets.{Sums, Differences}
use Rattle.ivl_laws.specs.Families.{set_at}
use Rattle.ivl_store.specs.declared.store.constraint.Constraint.{Constraint}
use Rattle.ivl_store.specs.Solutions.{SupportedBy, LiesWithin}

pub record Narrowed (c : Constraint) (sets : ℕ → ℤ → Type 0) (i : ℕ) (v : ℤ) : Type 0 where
  pub kept : sets i v
  pub at_x : i ≡ c.x → i ≢ c.y → i ≢ c.z → Differences (sets c.z) (sets c.y) v
  pub at_y : i ≡ c.y → i ≢ c.z → Differences (sets c.z) (sets c.x) v
  pub at_z : i ≡ c.z → Sums (sets c.x) (sets c.y) v

abbrev pub IsFixed : (ℕ → ℤ → Type 0) → Constraint → Type 0
IsFixed sets c = LiesWithin sets (Narrowed c sets)

pub record Keeps (constraints : List Constraint) (old new : List (List (ℤ × ℤ))) : Type 0 where
  pub within : LiesWithin (set_at new) (set_at old)
  pub families : (family : List (List (ℤ × ℤ))) → SupportedBy constraints (set_at family) → LiesWithin (set_at family) (set_at old) → LiesWithin (set_at family) (set_at new)

abbrev pub AllPresent : ℕ → Constraint → Type 0
AllPresent count c = (c.x < count) × (c.y < count) × (c.z < count)

abbrev pub first_unknown : ℕ → Constraint → Option ℕ
first_unknown count c = if nat_le count c.x then Some c.x else if nat_le count c.y then Some c.y else if nat_le count c.z then Some c.z else None

abbrev pub first_unknown_of : ℕ → List Constraint → Option ℕ
first_unknown_of count [] = None
first_unknown_of count (c ∷ cs) = option_or (first_unknown count c) (first_unknown_of count cs)
