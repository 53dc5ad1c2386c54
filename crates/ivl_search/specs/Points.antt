-- Points, which give each variable a number, and the solutions among them.
--     coordinate point i      the number that the point gives variable i; 0 if it gives it none
--     SumHolds point c      the numbers of x and y add up to that of z
--     Solves cs sets point      the point has one number for each set, a member of it, and each constraint of the
--         list holds at it
--     SolvesRules rules sets point      the point has one number for each set, a member of it, and satisfies each rule of
--         the list
--     EachOnce points      no point stands twice in the list
--     IsLeastAt variable solves point, IsGreatestAt variable solves point      no solution gives the variable a
--         smaller number than the point does; a greater one
--     ImprovesTo better variable solves n point      n solutions, each with a better number for the variable than the one before it, and the point is the last; with n 0 there is none
--     FallsTo, RisesTo variable solves n point      n solutions, each with a smaller number for the variable than the
--         one before it, and the point is the last; with a greater one; `None` if n is 0
--     first_unknown_or variable count cs      the first index of the constraints that is not below the count, or else the variable if it is not
--     first_unknown_of_rules count rules      the first index of the rules, in list order, that is not below the count; `None` if there is none
--     first_unknown_or_rules variable count rules      that index, or else the variable if it is not below the count
--     Finds solves points end      the points are solutions, none of them twice, and all of them if the search ended with that
use Rattle.std.specs.Prelude.{◌≡◌, ◌<◌, ℕ, zero, suc, ℤ, pos, ◌+ℤ◌, ◌≤ℤ◌, ◌<ℤ◌, List, [], ◌∷◌, All, Contains, IfSome, Option, None, Some, if◌then◌else◌, length, nat_le, slice_index_or}
use Rattle.std.specs.Option.{option_or}
use Rattle.ivl_laws.specs.Families.{set_at}
use Rattle.ivl_store.specs.declared.store.constraint.Constraint.{Constraint}
use Rattle.ivl_store.specs.Narrowing.{first_unknown, first_unknown_of}
use Rattle.ivl_rules.specs.declared.rules.Rule.{Rule}
use Rattle.ivl_rules.specs.Rules.{Satisfies, places}
use Rattle.ivl_search.specs.declared.search.End.{End}
use Rattle.ivl_search.specs.declared.search.End.TheVariants.{All as AllFound}

abbrev pub coordinate : List ℤ → ℕ → ℤ
coordinate point i = slice_index_or point i (pos 0)

abbrev pub SumHolds : List ℤ → Constraint → Type 0
SumHolds point c = (coordinate point c.x +ℤ coordinate point c.y) ≡ coordinate point c.z

pub record Solves (constraints : List Constraint) (sets : List (List (ℤ × ℤ))) (point : List ℤ) : Type 0 where
  pub one_each : length point ≡ length sets
  pub members : (i : ℕ) → i < length sets → set_at sets i (coordinate point i)
  pub sums : All (SumHolds point) constraints

pub record SolvesRules (rules : List Rule) (sets : List (List (ℤ × ℤ))) (point : List ℤ) : Type 0 where
  pub one_each : length point ≡ length sets
  pub members : (i : ℕ) → i < length sets → set_at sets i (coordinate point i)
  pub satisfied : All (λ rule. Satisfies rule (coordinate point)) rules

abbrev pub EachOnce : List (List ℤ) → Type 0
EachOnce [] = Unit {0}
EachOnce (point ∷ points) = (¬ (Contains points point)) × EachOnce points

pub record Finds (solves : List ℤ → Type 0) (points : List (List ℤ)) (end : End) : Type 0 where
  pub sound : All solves points
  pub once : EachOnce points
  pub complete : end ≡ AllFound → (point : List ℤ) → solves point → Contains points point

abbrev pub IsLeastAt : ℕ → (List ℤ → Type 0) → List ℤ → Type 0
IsLeastAt variable solves point = (other : List ℤ) → solves other → coordinate point variable ≤ℤ coordinate other variable

abbrev pub IsGreatestAt : ℕ → (List ℤ → Type 0) → List ℤ → Type 0
IsGreatestAt variable solves point = (other : List ℤ) → solves other → coordinate other variable ≤ℤ coordinate point variable

abbrev pub ImprovesTo : (ℤ → ℤ → Type 0) → ℕ → (List ℤ → Type 0) → ℕ → Option (List ℤ) → Type 0
ImprovesTo better variable solves zero point = point ≡ None
ImprovesTo better variable solves (suc n) None = ⊥
ImprovesTo better variable solves (suc n) (Some point) =
    solves point × ((earlier : Option (List ℤ)) × ImprovesTo better variable solves n earlier × IfSome earlier (λ e. better (coordinate e variable) (coordinate point variable)))

abbrev pub FallsTo : ℕ → (List ℤ → Type 0) → ℕ → Option (List ℤ) → Type 0
FallsTo variable solves n point = ImprovesTo (λ old new. new <ℤ old) variable solves n point

abbrev pub RisesTo : ℕ → (List ℤ → Type 0) → ℕ → Option (List ℤ) → Type 0
RisesTo variable solves n point = ImprovesTo (λ old new. old <ℤ new) variable solves n point

abbrev pub first_unknown_or : ℕ → ℕ → List Constraint → Option ℕ
first_unknown_or variable count constraints = option_or (first_unknown_of count constraints) (if nat_le count variable then Some variable else None)

abbrev pub first_unknown_of_rules : ℕ → List Rule → Option ℕ
first_unknown_of_rules count [] = None
first_unknown_of_rules count (rule ∷ rules) = option_or (first_unknown count (places rule)) (first_unknown_of_rules count rules)

abbrev pub first_unknown_or_rules : ℕ → ℕ → List Rule → Option ℕ
first_unknown_or_rules variable count rules = option_or (first_unknown_of_rules count rules) (if nat_le count variable then Some variable else None)
