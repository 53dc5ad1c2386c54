-- What a merge writes, and where: a sink is a list of runs that grows at its end.
--     IsRunIn whole p      the pair is not crossed, and its bounds are in the range
--     laid L room      the room with the first pairs of the list in its first places, as many as there are places
--     Stands p room told      the pair is the one in the room where the last of the pairs that are told is laid, or at the first place before any is, if there is such a place
--     AddsAtEnd p H H'      where H holds of a list, H' holds of it with the pair at its end
--     AddsOver test p H H'      the same, where the pair takes the place of the last one if the test holds
--     AddsFilled p H H'      the same, where a crossed pair is left out
--     PutsAt k test p H H'      the same, where the pair is at place k, the last one or the next, if the test holds; else k is the end, and the list stays
--     IsMerged H S most L      the list has the runs of S, at most so many, and H holds of it
use Rattle.std.specs.Prelude.{◌≡◌, ℕ, ◌+◌, ◌-◌, ℤ, ◌≤◌, ◌≤ℤ◌, ◌<ℤ◌, Bool, false, List, [], ◌∷◌, ◌++◌, length, take, slice_get, IfSome, if◌then◌else◌}
use Rattle.std.specs.Int.{from_bool}
use Rattle.ivl_laws.specs.Sets.{IsInRange}
use Rattle.ivl_laws.specs.Runs.{IsRunsOf}

abbrev pub IsRunIn : ℤ × ℤ → ℤ × ℤ → Type 0
IsRunIn whole p = (p.0 ≤ℤ p.1) × IsInRange whole p

-- a list that does not fit fills the room
abbrev pub laid : List (ℤ × ℤ) → List (ℤ × ℤ) → List (ℤ × ℤ)
laid [] room = room
laid (p ∷ L) [] = []
laid (p ∷ L) (q ∷ room) = p ∷ laid L room

-- the pair at that place, if there is such a place, is this one
abbrev pub Stands : ℤ × ℤ → List (ℤ × ℤ) → ℕ → Type 0
Stands p room told = IfSome (slice_get room (told - 1)) (λ q. q ≡ p)

abbrev pub AddsAtEnd : ℤ × ℤ → (List (ℤ × ℤ) → Type 0) → (List (ℤ × ℤ) → Type 0) → Type 0
AddsAtEnd p H H' = (L : List (ℤ × ℤ)) → H L → H' (L ++ p ∷ [])

abbrev pub AddsOver : Bool → ℤ × ℤ → (List (ℤ × ℤ) → Type 0) → (List (ℤ × ℤ) → Type 0) → Type 0
AddsOver test p H H' = (L : List (ℤ × ℤ)) → H L → H' (take (length L - from_bool test) L ++ p ∷ [])

pub record AddsFilled (p : ℤ × ℤ) (H H' : List (ℤ × ℤ) → Type 0) : Type 0 where
  pub crossed : p.1 <ℤ p.0 → (L : List (ℤ × ℤ)) → H L → H' L
  pub filled : p.0 ≤ℤ p.1 → (L : List (ℤ × ℤ)) → H L → H' (L ++ p ∷ [])

abbrev pub PutsAt : ℕ → Bool → ℤ × ℤ → (List (ℤ × ℤ) → Type 0) → (List (ℤ × ℤ) → Type 0) → Type 0
PutsAt k test p H H' = (L : List (ℤ × ℤ)) → H L → k ≤ length L → length L ≤ k + 1 → (test ≡ false → k ≡ length L)
    → H' (if test then take k L ++ p ∷ [] else L)

pub record IsMerged (H : List (ℤ × ℤ) → Type 0) (S : ℤ → Type 0) (most : ℕ) (L : List (ℤ × ℤ)) : Type 0 where
  pub runs : IsRunsOf L S
  pub held : H L
  pub at_most : length L ≤ most
