-- Solutions of x + y = z over sets, and the families of sets that they support. A family gives each variable, named by
-- its index, a set of whole numbers.
--     AreDistinct c      `x`, `y` and `z` are three different variables
--     Names c i      variable i is x, y or z
--     IsSolution c sets point      the point gives `x`, `y` and `z` members of their sets, and the sum holds; other
--         sets do not matter
--     IsCommonSolution cs sets point      the point solves each constraint of the list
--     HasSolutionAt c sets i v      some solution gives variable i the number v
--     Supports c sets      each member of the sets that the constraint names stands in a solution over the family
--     SupportedBy cs sets      each constraint of the list supports the family
--     LiesWithin inner outer      each set of the one family lies within that of the other
--     IsGreatestFamily cs given family      the greatest family within the given one that the constraints support,
--         among families that are lists of runs
--     LostMember before after      some variable has lost a member
use Rattle.std.specs.Prelude.{◌≡◌, ◌≢◌, ℕ, ℤ, ◌+ℤ◌, ◌⊎◌, List, All}
use Rattle.ivl_laws.specs.Families.{set_at}
use Rattle.ivl_store.specs.declared.store.constraint.Constraint.{Constraint}

abbrev pub AreDistinct : Constraint → Type 0
AreDistinct c = (c.x ≢ c.y) × (c.x ≢ c.z) × (c.y ≢ c.z)

abbrev pub Names : Constraint → ℕ → Type 0
Names c i = (i ≡ c.x) ⊎ ((i ≡ c.y) ⊎ (i ≡ c.z))

pub record IsSolution (c : Constraint) (sets : ℕ → ℤ → Type 0) (point : ℕ → ℤ) : Type 0 where
  pub in_x : sets c.x (point c.x)
  pub in_y : sets c.y (point c.y)
  pub in_z : sets c.z (point c.z)
  pub sum : (point c.x +ℤ point c.y) ≡ point c.z

abbrev pub IsCommonSolution : List Constraint → (ℕ → ℤ → Type 0) → (ℕ → ℤ) → Type 0
IsCommonSolution constraints sets point = All (λ c. IsSolution c sets point) constraints

pub record HasSolutionAt (c : Constraint) (sets : ℕ → ℤ → Type 0) (i : ℕ) (v : ℤ) : Type 0 where
  pub point : ℕ → ℤ
  pub solution : IsSolution c sets point
  pub at : point i ≡ v

abbrev pub Supports : Constraint → (ℕ → ℤ → Type 0) → Type 0
Supports c sets = (i : ℕ) → Names c i → (v : ℤ) → sets i v → HasSolutionAt c sets i v

abbrev pub SupportedBy : List Constraint → (ℕ → ℤ → Type 0) → Type 0
SupportedBy constraints sets = All (λ c. Supports c sets) constraints

abbrev pub LiesWithin : (ℕ → ℤ → Type 0) → (ℕ → ℤ → Type 0) → Type 0
LiesWithin inner outer = (i : ℕ) (v : ℤ) → inner i v → outer i v

-- of all families that are finite lists of runs
pub record IsGreatestFamily (constraints : List Constraint) (given family : ℕ → ℤ → Type 0) : Type 0 where
  pub within : LiesWithin family given
  pub supported : SupportedBy constraints family
  pub greatest : (other : List (List (ℤ × ℤ))) → LiesWithin (set_at other) given → SupportedBy constraints (set_at other) → LiesWithin (set_at other) family

pub record LostMember (before after : ℕ → ℤ → Type 0) : Type 0 where
  pub variable : ℕ
  pub member : ℤ
  pub was : before variable member
  pub gone : ¬ (after variable member)
