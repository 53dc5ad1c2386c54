-- What stands in place of the sets at x, y and z once a constraint has narrowed them. `None` means that all members stay.
--     IsLeftOf whole L S left      what is left of the members of L where only those in S are kept
--     AreLeftAt whole c sets x y z      what is left at x, y and z; a variable in two places has it at its last
--     narrowed_at sets i left      the list of sets with what is left in place of set i
use Rattle.std.specs.Prelude.{◌≡◌, ◌≢◌, ◌⊎◌, ℕ, ℤ, List, Option, Some, None, slice_set, slice_index_or, []}
use Rattle.ivl_laws.specs.Sets.{IsSubset, SameMembers, Intersection, Sums, Differences}
use Rattle.ivl_laws.specs.Runs.{Covers, IsRunListIn}
use Rattle.ivl_laws.specs.Families.{set_at}
use Rattle.ivl_store.specs.declared.store.constraint.Constraint.{Constraint}

-- a set is made only if a member is lost
abbrev pub IsLeftOf : ℤ × ℤ → List (ℤ × ℤ) → (ℤ → Type 0) → Option (List (ℤ × ℤ)) → Type 0
IsLeftOf whole L S None = IsRunListIn whole L × IsSubset (Covers L) S
IsLeftOf whole L S (Some left) =
    IsRunListIn whole L × IsRunListIn whole left × SameMembers (Covers left) (Intersection (Covers L) S) × (¬ (SameMembers (Covers left) (Covers L)))

pub record AreLeftAt (whole : ℤ × ℤ) (c : Constraint) (sets : List (List (ℤ × ℤ))) (x y z : Option (List (ℤ × ℤ))) : Type 0 where
  pub at_x : c.x ≢ c.y → c.x ≢ c.z → IsLeftOf whole (slice_index_or sets c.x []) (Differences (set_at sets c.z) (set_at sets c.y)) x
  pub at_y : c.y ≢ c.z → IsLeftOf whole (slice_index_or sets c.y []) (Differences (set_at sets c.z) (set_at sets c.x)) y
  pub at_z : IsLeftOf whole (slice_index_or sets c.z []) (Sums (set_at sets c.x) (set_at sets c.y)) z
  pub x_is_later : (c.x ≡ c.y) ⊎ (c.x ≡ c.z) → x ≡ None
  pub y_is_later : c.y ≡ c.z → y ≡ None

abbrev pub narrowed_at : List (List (ℤ × ℤ)) → ℕ → Option (List (ℤ × ℤ)) → List (List (ℤ × ℤ))
narrowed_at sets i None = sets
narrowed_at sets i (Some left) = slice_set sets i left
