-- The better of two numbers, and the best solution.
--     IsBetter wanted old new      the new number is smaller than the old one, or greater, as is wanted
--     IsAsGood wanted old new      it is at most the old one, or at least, as is wanted
--     IsInPart wanted part old new      the new number is better than the old one; as good; or the old one is better
--     IsBestAt wanted variable solves point      no solution gives the variable a better number
use Rattle.std.specs.Prelude.{ℕ, ℤ, ◌≤ℤ◌, ◌<ℤ◌, List}
use Rattle.ivl_search.specs.declared.search.choice.Wanted.{Wanted}
use Rattle.ivl_search.specs.declared.search.choice.Wanted.TheVariants.{Least, Greatest}
use Rattle.ivl_search.specs.declared.search.choice.Part.{Part}
use Rattle.ivl_search.specs.declared.search.choice.Part.TheVariants.{Better, AsGood, Worse}
use Rattle.ivl_search.specs.Points.{IsGreatestAt, IsLeastAt}

abbrev pub IsBetter : Wanted → ℤ → ℤ → Type 0
IsBetter Least old new = new <ℤ old
IsBetter Greatest old new = old <ℤ new

abbrev pub IsAsGood : Wanted → ℤ → ℤ → Type 0
IsAsGood Least old new = new ≤ℤ old
IsAsGood Greatest old new = old ≤ℤ new

abbrev pub IsInPart : Wanted → Part → ℤ → ℤ → Type 0
IsInPart wanted Better = λ old new. IsBetter wanted old new
IsInPart wanted AsGood = λ old new. IsAsGood wanted old new
IsInPart wanted Worse = λ old new. IsBetter wanted new old

abbrev pub IsBestAt : Wanted → ℕ → (List ℤ → Type 0) → List ℤ → Type 0
IsBestAt Least variable solves point = IsLeastAt variable solves point
IsBestAt Greatest variable solves point = IsGreatestAt variable solves point
