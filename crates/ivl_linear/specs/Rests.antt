-- Lists of what is left of domains, each with its variable, and what else the steps of a narrowing say.
--     AllFilled terms sets      the variable of each term has a member
--     IsApartBy a S n      no two of the numbers a times a member of S are apart by more than n
--     HasRestOf rests i      some set of the list is of variable i
--     AllRests P rests      P holds of the variable and the set of each
--     with_rest rests i rest      the list, and after it what is left of set i, if that loses a member
--     IsRestAt terms relation sets i L      the rule names variable i, L has the members of set i that stand in a point of the rule, and some do not
--     AreRestsOf terms relation sets seen rests      each set of the list is so left, and each other variable that was seen keeps its members
use Rattle.std.specs.Prelude.{◌≡◌, ◌↔◌, ◌⊎◌, ℕ, ◌<◌, ℤ, ◌+ℤ◌, ◌*ℤ◌, ◌≤ℤ◌, List, [], ◌∷◌, ◌++◌, Option, Some, None, length}
use Rattle.ivl_laws.specs.Families.{set_at}
use Rattle.ivl_laws.specs.Runs.{Covers}
use Rattle.ivl_laws.specs.Sets.{HasSome}
use Rattle.ivl_linear.specs.declared.linear.Term.{Term}
use Rattle.ivl_linear.specs.declared.linear.Relation.{Relation}
use Rattle.ivl_linear.specs.Linear.{HasLinearPointAt, HasTermOf, LinearNames}

abbrev pub AllFilled : List Term → (ℕ → ℤ → Type 0) → Type 0
AllFilled terms sets = (i : ℕ) → HasTermOf terms i → HasSome (sets i)

abbrev pub IsApartBy : ℤ → (ℤ → Type 0) → ℤ → Type 0
IsApartBy a S n = (u v : ℤ) → S u → S v → (a *ℤ u) ≤ℤ ((a *ℤ v) +ℤ n)

abbrev pub HasRestOf : List (ℕ × List (ℤ × ℤ)) → ℕ → Type 0
HasRestOf [] i = ⊥
HasRestOf (e ∷ rests) i = (i ≡ e.0) ⊎ HasRestOf rests i

abbrev pub AllRests : (ℕ → List (ℤ × ℤ) → Type 0) → List (ℕ × List (ℤ × ℤ)) → Type 0
AllRests P [] = Unit {0}
AllRests P (e ∷ rests) = P e.0 e.1 × AllRests P rests

abbrev pub with_rest : List (ℕ × List (ℤ × ℤ)) → ℕ → Option (List (ℤ × ℤ)) → List (ℕ × List (ℤ × ℤ))
with_rest rests i None = rests
with_rest rests i (Some L) = rests ++ (i, L) ∷ []

pub record IsRestAt (terms : List Term) (relation : Relation) (sets : List (List (ℤ × ℤ))) (i : ℕ) (L : List (ℤ × ℤ)) : Type 0 where
  pub present : i < length sets
  pub named : LinearNames terms relation i
  pub members : (v : ℤ) → Covers L v ↔ (set_at sets i v × HasLinearPointAt terms relation (set_at sets) i v)
  pub lost : ¬ ((v : ℤ) → set_at sets i v → HasLinearPointAt terms relation (set_at sets) i v)

pub record AreRestsOf (terms : List Term) (relation : Relation) (sets : List (List (ℤ × ℤ))) (seen : ℕ → Type 0) (rests : List (ℕ × List (ℤ × ℤ))) : Type 0 where
  pub all : AllRests (IsRestAt terms relation sets) rests
  pub others : (i : ℕ) → seen i → HasRestOf rests i ⊎ ((v : ℤ) → set_at sets i v → HasLinearPointAt terms relation (set_at sets) i v)
