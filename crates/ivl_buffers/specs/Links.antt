-- What is tested of a list of runs, a pair and the next at a time.
--     IsLinked whole p q      p is not crossed, and the number above it is in the range and below q
--     LeadsTo whole p L      p is linked to the first pair of the list, if there is one
--     AreLinked whole L      each pair but the last is linked to the next
--     StartsIn whole L      the first pair, if there is one, does not start below the range
--     EndsIn whole L      the last pair, if there is one, is a run in the range
use Rattle.std.specs.Prelude.{ℤ, pos, ◌+ℤ◌, ◌≤ℤ◌, List, [], ◌∷◌}
use Rattle.ivl_laws.specs.Sets.{IsBetween}
use Rattle.ivl_walks.specs.Sinks.{IsRunIn}

abbrev pub IsLinked : ℤ × ℤ → ℤ × ℤ → ℤ × ℤ → Type 0
IsLinked whole p q = (p.0 ≤ℤ p.1) × IsBetween whole (p.1 +ℤ pos 1) × ((p.1 +ℤ pos 2) ≤ℤ q.0)

abbrev pub LeadsTo : ℤ × ℤ → ℤ × ℤ → List (ℤ × ℤ) → Type 0
LeadsTo whole p [] = Unit {0}
LeadsTo whole p (q ∷ L) = IsLinked whole p q

abbrev pub AreLinked : ℤ × ℤ → List (ℤ × ℤ) → Type 0
AreLinked whole [] = Unit {0}
AreLinked whole (p ∷ L) = LeadsTo whole p L × AreLinked whole L

abbrev pub StartsIn : ℤ × ℤ → List (ℤ × ℤ) → Type 0
StartsIn whole [] = Unit {0}
StartsIn whole (p ∷ L) = whole.0 ≤ℤ p.0

abbrev pub EndsIn : ℤ × ℤ → List (ℤ × ℤ) → Type 0
EndsIn whole [] = Unit {0}
EndsIn whole (p ∷ []) = IsRunIn whole p
EndsIn whole (p ∷ q ∷ L) = EndsIn whole (q ∷ L)
