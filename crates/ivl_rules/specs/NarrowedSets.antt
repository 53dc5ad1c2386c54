-- What stands in place of the sets at the places of a rule once it has narrowed them. `None` means that all members stay.
--     AreLeftAtPlaces whole c P sets x y z      what is left at x, y and z of the members that P keeps; where z is y, it has none
--     AreLeftBy whole R X Y x y      what is left of two sets of the members that stand in R with one of the other
--     IsSmall by      the number of a 64-bit type, or its opposite
--     IsMoved by a b, IsAtMost by a b, IsNot by a b      a and `by` are b, at most b, or not b
--     IsForbidden by S T v      S has v and another number, and T just that one which with `by` is v
use Rattle.std.specs.Prelude.{◌≡◌, ◌≢◌, ◌^◌, ℕ, ℤ, pos, negsuc, ◌+ℤ◌, ◌-ℤ◌, ◌≤ℤ◌, List, [], Option, None, slice_index_or}
use Rattle.ivl_laws.specs.Runs.{Covers}
use Rattle.ivl_laws.specs.Sets.{Only, SameMembers}
use Rattle.ivl_store.specs.declared.store.constraint.Constraint.{Constraint}
use Rattle.ivl_store.specs.NarrowedSets.{IsLeftOf}

pub record AreLeftAtPlaces (whole : ℤ × ℤ) (c : Constraint) (P : ℕ → ℤ → Type 0) (sets : List (List (ℤ × ℤ))) (x y z : Option (List (ℤ × ℤ))) : Type 0 where
  pub at_x : IsLeftOf whole (slice_index_or sets c.x []) (P c.x) x
  pub at_y : IsLeftOf whole (slice_index_or sets c.y []) (P c.y) y
  pub at_z : c.y ≢ c.z → IsLeftOf whole (slice_index_or sets c.z []) (P c.z) z
  pub z_is_y : c.y ≡ c.z → z ≡ None

pub record AreLeftBy (whole : ℤ × ℤ) (R : ℤ → ℤ → Type 0) (X Y : List (ℤ × ℤ)) (x y : Option (List (ℤ × ℤ))) : Type 0 where
  pub first : IsLeftOf whole X (λ a. (b : ℤ) × Covers Y b × R a b) x
  pub second : IsLeftOf whole Y (λ b. (a : ℤ) × Covers X a × R a b) y

abbrev pub IsMoved : ℤ → ℤ → ℤ → Type 0
IsMoved by a b = (a +ℤ by) ≡ b

abbrev pub IsAtMost : ℤ → ℤ → ℤ → Type 0
IsAtMost by a b = (a +ℤ by) ≤ℤ b

abbrev pub IsNot : ℤ → ℤ → ℤ → Type 0
IsNot by a b = (a +ℤ by) ≢ b

abbrev pub IsSmall : ℤ → Type 0
IsSmall by = (negsuc (2 ^ 64) ≤ℤ by) × (by ≤ℤ pos (2 ^ 64))

abbrev pub IsForbidden : ℤ → (ℤ → Type 0) → (ℤ → Type 0) → ℤ → Type 0
IsForbidden by S T v = S v × ((u : ℤ) × S u × (u ≢ v)) × SameMembers T (Only (v -ℤ by))
