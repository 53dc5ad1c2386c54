-- Where a number stands in a list of runs.
--     IsPlaceOf runs v place      run `i` has v; or none has, and `i` runs lie below v
--     index_of place      how many runs lie before it
--     EndBelow v L, StartAbove v L      each pair ends below v; each starts above v
--     CoversFrom i p L      the runs before place i end below the run p, which the list covers
--     EndsFrom v L      the first pair, if there is one, ends at v or above
use Rattle.std.specs.Prelude.{◌≡◌, ℕ, ◌<◌, ℤ, ◌≤ℤ◌, ◌<ℤ◌, List, [], ◌∷◌, length, slice_get, take, IsSomeAnd}
use Rattle.ivl_laws.specs.Sets.{IsBetween, IsSubset}
use Rattle.ivl_laws.specs.Runs.{Covers, runs_below}
use Rattle.ivl_places.specs.declared.place.Place.{Place}
use Rattle.ivl_places.specs.declared.place.Place.TheVariants.{In, Gap}

-- run i has v, or none has and i runs lie below v
abbrev pub IsPlaceOf : List (ℤ × ℤ) → ℤ → Place → Type 0
IsPlaceOf runs v (In i) = IsSomeAnd (slice_get runs i) (λ run. IsBetween run v)
IsPlaceOf runs v (Gap i) = (¬ (Covers runs v)) × (runs_below v runs ≡ i)

abbrev pub index_of : Place → ℕ
index_of (In i) = i
index_of (Gap i) = i

abbrev pub EndBelow : ℤ → List (ℤ × ℤ) → Type 0
EndBelow v [] = Unit {0}
EndBelow v (r ∷ L) = (r.1 <ℤ v) × EndBelow v L

abbrev pub StartAbove : ℤ → List (ℤ × ℤ) → Type 0
StartAbove v [] = Unit {0}
StartAbove v (r ∷ L) = (v <ℤ r.0) × StartAbove v L

abbrev pub EndsFrom : ℤ → List (ℤ × ℤ) → Type 0
EndsFrom v [] = Unit {0}
EndsFrom v (r ∷ L) = v ≤ℤ r.1

-- the runs before place i end below the run p, which the list covers
pub record CoversFrom (i : ℕ) (p : ℤ × ℤ) (L : List (ℤ × ℤ)) : Type 0 where
  pub held : IsSubset (IsBetween p) (Covers L)
  pub less : i < length L
  pub below : EndBelow p.0 (take i L)
