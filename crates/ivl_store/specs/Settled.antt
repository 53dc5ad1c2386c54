-- Which sets a narrowing took members of, and which narrowings need not be made again.
--     any_lost lost      whether a member was lost at x, y or z
--     AreLost c lost before after      a variable whose flag is not set has lost no member; one in two places has the flag of its last
--     AreSettled cs flags sets      one flag a constraint, set only where narrowing by it changes nothing
--     AreCleared changed cs i before after      flags were only cleared, and none if nothing has changed; where variable i has changed, none
--                                               is left at a constraint that names it
use Rattle.std.specs.Prelude.{◌≡◌, ◌↔◌, ◌<◌, ℕ, ℤ, Bool, true, false, ◌||◌, List, length, slice_index_or}
use Rattle.ivl_store.specs.declared.store.constraint.Constraint.{Constraint}
use Rattle.ivl_store.specs.declared.store.settled.Lost.{Lost}
use Rattle.ivl_store.specs.Solutions.{Names, LostMember}
use Rattle.ivl_store.specs.Narrowing.{IsFixed}

abbrev pub any_lost : Lost → Bool
any_lost lost = lost.x || (lost.y || lost.z)

pub record AreLost (c : Constraint) (lost : Lost) (before after : ℕ → ℤ → Type 0) : Type 0 where
  pub some : any_lost lost ≡ true ↔ LostMember before after
  pub others : (i : ℕ) → (i ≡ c.x → lost.x ≡ false) → (i ≡ c.y → lost.y ≡ false) → (i ≡ c.z → lost.z ≡ false) → (v : ℤ) → before i v → after i v

pub record AreSettled (constraints : List Constraint) (flags : List Bool) (sets : ℕ → ℤ → Type 0) : Type 0 where
  pub one_each : length flags ≡ length constraints
  pub fixed : (k : ℕ) (d : Constraint) → k < length constraints → slice_index_or flags k false ≡ true → IsFixed sets (slice_index_or constraints k d)

pub record AreCleared (changed : Bool) (constraints : List Constraint) (variable : ℕ) (before after : List Bool) : Type 0 where
  pub same_count : length after ≡ length before
  pub kept : changed ≡ false → after ≡ before
  pub only_cleared : (k : ℕ) → slice_index_or after k false ≡ true → slice_index_or before k false ≡ true
  pub apart : changed ≡ true → (k : ℕ) (d : Constraint) → k < length constraints → slice_index_or after k false ≡ true → ¬ (Names (slice_index_or constraints k d) variable)
