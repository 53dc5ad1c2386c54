-- What narrowing by a list of constraints, over and over, leaves of a family of sets.
--     narrowed_by cs sets      the family narrowed by each constraint in turn
--     rounds_of cs n sets      the family after n rounds, each of which narrows by each constraint in turn
--     IsNarrowedBy cs before after      narrowing by each constraint in turn leaves these members
--     IsPartlyNarrowedBy cs before after      narrowing by some first constraints of the list does
--     After cs n before after      n rounds leave these members
--     AfterSome cs n j before after      n rounds do, and of the next the narrowings by the first j constraints
--     EachLost cs n sets      each of the first n rounds takes a member
--     IsPartlySettled cs before after      these members are left by some whole rounds, each of which removed a
--         member, and the first narrowings of one more
use Rattle.std.specs.Prelude.{◌↔◌, ◌<◌, ◌≤◌, ◌+◌, ℕ, zero, suc, ℤ, List, [], ◌∷◌, length, take}
use Rattle.ivl_store.specs.declared.store.constraint.Constraint.{Constraint}
use Rattle.ivl_store.specs.Solutions.{LostMember}
use Rattle.ivl_store.specs.Narrowing.{Narrowed}

abbrev pub narrowed_by : List Constraint → (ℕ → ℤ → Type 0) → ℕ → ℤ → Type 0
narrowed_by [] sets = sets
narrowed_by (c ∷ cs) sets = narrowed_by cs (Narrowed c sets)

abbrev pub rounds_of : List Constraint → ℕ → (ℕ → ℤ → Type 0) → ℕ → ℤ → Type 0
rounds_of constraints zero sets = sets
rounds_of constraints (suc count) sets = rounds_of constraints count (narrowed_by constraints sets)

abbrev pub IsNarrowedBy : List Constraint → (ℕ → ℤ → Type 0) → (ℕ → ℤ → Type 0) → Type 0
IsNarrowedBy constraints before after = (i : ℕ) (v : ℤ) → after i v ↔ narrowed_by constraints before i v

abbrev pub IsPartlyNarrowedBy : List Constraint → (ℕ → ℤ → Type 0) → (ℕ → ℤ → Type 0) → Type 0
IsPartlyNarrowedBy constraints before after = (first : ℕ) × (first ≤ length constraints) × IsNarrowedBy (take first constraints) before after

abbrev pub After : List Constraint → ℕ → (ℕ → ℤ → Type 0) → (ℕ → ℤ → Type 0) → Type 0
After constraints count before after = (i : ℕ) (v : ℤ) → after i v ↔ rounds_of constraints count before i v

abbrev pub AfterSome : List Constraint → ℕ → ℕ → (ℕ → ℤ → Type 0) → (ℕ → ℤ → Type 0) → Type 0
AfterSome constraints count first before after = IsNarrowedBy (take first constraints) (rounds_of constraints count before) after

abbrev pub EachLost : List Constraint → ℕ → (ℕ → ℤ → Type 0) → Type 0
EachLost constraints count sets = (m : ℕ) → m < count → LostMember (rounds_of constraints m sets) (rounds_of constraints (m + 1) sets)

pub record IsPartlySettled (constraints : List Constraint) (before after : ℕ → ℤ → Type 0) : Type 0 where
  pub rounds : ℕ
  pub narrowings : ℕ
  pub in_list : narrowings ≤ length constraints
  pub each_lost : EachLost constraints rounds before
  pub left : AfterSome constraints rounds narrowings before after
