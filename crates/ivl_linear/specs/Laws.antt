-- What the layers above use of a narrowing by a linear rule.
--     LinearIsLocal, LinearIsMonotone, LinearKeepsSupported, LinearKeepsPoints, LinearSettlesAtOnce      as their functions say
use Rattle.std.specs.Prelude.{◌≡◌, ◌↔◌, ℕ, ℤ, List}
use Rattle.ivl_laws.specs.Families.{set_at}
use Rattle.ivl_linear.specs.declared.linear.Term.{Term}
use Rattle.ivl_linear.specs.declared.linear.Relation.{Relation}
use Rattle.ivl_linear.specs.Linear.{IsLinearPoint, LinearNames, NarrowedByLinear, SatisfiesLinear, LinearSupportsAll}

abbrev pub LinearIsLocal : Type 0
LinearIsLocal = (terms : List Term) (relation : Relation) (p q : ℕ → ℤ) → ((i : ℕ) → LinearNames terms relation i → p i ≡ q i) → SatisfiesLinear terms relation p → SatisfiesLinear terms relation q

abbrev pub LinearIsMonotone : Type 0
LinearIsMonotone = (terms : List Term) (relation : Relation) (inner outer : List (List (ℤ × ℤ))) → ((i : ℕ) (v : ℤ) → set_at inner i v → set_at outer i v)
    → (i : ℕ) (v : ℤ) → NarrowedByLinear terms relation (set_at inner) i v → NarrowedByLinear terms relation (set_at outer) i v

abbrev pub LinearKeepsSupported : Type 0
LinearKeepsSupported = (terms : List Term) (relation : Relation) (family given : List (List (ℤ × ℤ))) → LinearSupportsAll terms relation (set_at family)
    → ((i : ℕ) (v : ℤ) → set_at family i v → set_at given i v) → (i : ℕ) (v : ℤ) → set_at family i v → NarrowedByLinear terms relation (set_at given) i v

abbrev pub LinearKeepsPoints : Type 0
LinearKeepsPoints = (terms : List Term) (relation : Relation) (old new : List (List (ℤ × ℤ))) → ((i : ℕ) (v : ℤ) → set_at new i v ↔ NarrowedByLinear terms relation (set_at old) i v)
    → (point : ℕ → ℤ) → IsLinearPoint terms relation (set_at old) point → IsLinearPoint terms relation (set_at new) point

abbrev pub LinearSettlesAtOnce : Type 0
LinearSettlesAtOnce = (terms : List Term) (relation : Relation) (old new later : List (List (ℤ × ℤ))) → ((i : ℕ) (v : ℤ) → set_at new i v ↔ NarrowedByLinear terms relation (set_at old) i v)
    → ((i : ℕ) (v : ℤ) → set_at later i v → set_at new i v) → ((i : ℕ) → LinearNames terms relation i → (v : ℤ) → set_at new i v → set_at later i v)
    → (i : ℕ) (v : ℤ) → set_at later i v → NarrowedByLinear terms relation (set_at later) i v
