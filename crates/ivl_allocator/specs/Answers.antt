-- What an allocator of numbers answers, and the free numbers that are left. A state is the list of the runs of the free numbers.
--     IsFreeSet first last L      all that the runs cover are numbers from `first` to `last`
--     SaysOnly told old text new      the answer is `told`, and the same numbers are free
--     TakesRun run old text new      the answer is the run, which is free no longer
--     TakesLowest, TakesAt, TakesAbove      what `take` does by where it takes
--     Takes asked old text new      the answer to `take`: the lowest run of so many free numbers, the run at a number, or the lowest above one
--     GivesRun run old text new      the numbers are free too, if none of them was
--     Gives given old text new      the answer to `give`
use Rattle.std.specs.Prelude.{◌≡◌, ◌⊎◌, ℕ, ℤ, pos, ◌+◌, ◌-◌, List, codes, Result, Ok, Err}
use Rattle.ivl_laws.specs.Runs.{Covers, IsRunsOf}
use Rattle.ivl_laws.specs.Sets.{AtLeast, HasNone, Intersection, IsBetween, IsSubset, Union, Without}
use Rattle.ivl_lines.specs.Commands.{no_memory}
use Rattle.ivl_lines.specs.Lines.{with_newline}
use Rattle.ivl_lines.specs.Sets.{run_text}
use Rattle.ivl_places.specs.FirstFit.{FitsAt, IsFirstFit}
use Rattle.ivl_allocator.specs.declared.requests.Take.{Take}
use Rattle.ivl_allocator.specs.declared.requests.Take.TheVariants.{Lowest, At, Above}

abbrev pub IsFreeSet : ℕ → ℕ → List (ℤ × ℤ) → Type 0
IsFreeSet first last L = IsSubset (Covers L) (IsBetween (pos first, pos last))

abbrev pub SaysOnly : List ℕ → List (ℤ × ℤ) → List ℕ → List (ℤ × ℤ) → Type 0
SaysOnly told old text new = (text ≡ told) × (new ≡ old)

abbrev pub HasNoRun : List (ℤ × ℤ) → List ℕ → List (ℤ × ℤ) → Type 0
HasNoRun old text new = SaysOnly (with_newline (codes "none")) old text new

abbrev pub TakesRun : ℤ × ℤ → List (ℤ × ℤ) → List ℕ → List (ℤ × ℤ) → Type 0
TakesRun run old text new = (text ≡ with_newline (run_text run)) × IsRunsOf new (Without (Covers old) (IsBetween run))

-- or there is no memory, and nothing changes
abbrev pub MayTake : ℤ × ℤ → List (ℤ × ℤ) → List ℕ → List (ℤ × ℤ) → Type 0
MayTake run old text new = TakesRun run old text new ⊎ SaysOnly no_memory old text new

-- `none` if no so many numbers in a row are free
abbrev pub TakesLowest : ℕ → List (ℤ × ℤ) → List ℕ → List (ℤ × ℤ) → Type 0
TakesLowest n old text new =
    (((v : ℤ) → ¬ (FitsAt n (Covers old) v)) × HasNoRun old text new)
    ⊎ ((run : ℤ × ℤ) × IsFirstFit n (Covers old) run × TakesRun run old text new)

-- so many numbers, at least one, from this one on
abbrev pub run_of_count : ℕ → ℕ → ℤ × ℤ
run_of_count n place = (pos place, pos (place + (n - 1)))

-- `none` if one of them is not free
abbrev pub TakesAt : ℕ → ℕ → List (ℤ × ℤ) → List ℕ → List (ℤ × ℤ) → Type 0
TakesAt n place old text new =
    ((¬ (IsSubset (IsBetween (run_of_count n place)) (Covers old))) × HasNoRun old text new)
    ⊎ (IsSubset (IsBetween (run_of_count n place)) (Covers old) × MayTake (run_of_count n place) old text new)

abbrev pub TakesAbove : ℕ → ℕ → List (ℤ × ℤ) → List ℕ → List (ℤ × ℤ) → Type 0
TakesAbove n place old text new =
    (((v : ℤ) → ¬ (FitsAt n (AtLeast (pos (place + 1)) (Covers old)) v)) × HasNoRun old text new)
    ⊎ ((run : ℤ × ℤ) × IsFirstFit n (AtLeast (pos (place + 1)) (Covers old)) run × MayTake run old text new)

abbrev pub Takes : Result Take (List ℕ) → List (ℤ × ℤ) → List ℕ → List (ℤ × ℤ) → Type 0
Takes (Err told) old text new = SaysOnly told old text new
Takes (Ok (Lowest n)) old text new = TakesLowest n old text new
Takes (Ok (At n place)) old text new = TakesAt n place old text new
Takes (Ok (Above n place)) old text new = TakesAbove n place old text new

abbrev pub GivesBack : ℤ × ℤ → List (ℤ × ℤ) → List ℕ → List (ℤ × ℤ) → Type 0
GivesBack run old text new = (text ≡ with_newline (codes "ok")) × IsRunsOf new (Union (Covers old) (IsBetween run))

abbrev pub GivesRun : ℤ × ℤ → List (ℤ × ℤ) → List ℕ → List (ℤ × ℤ) → Type 0
GivesRun run old text new =
    (HasNone (Intersection (Covers old) (IsBetween run)) × (GivesBack run old text new ⊎ SaysOnly no_memory old text new))
    ⊎ ((¬ (HasNone (Intersection (Covers old) (IsBetween run)))) × SaysOnly (with_newline (codes "some of them are free")) old text new)

abbrev pub Gives : Result (ℤ × ℤ) (List ℕ) → List (ℤ × ℤ) → List ℕ → List (ℤ × ℤ) → Type 0
Gives (Err told) old text new = SaysOnly told old text new
Gives (Ok run) old text new = GivesRun run old text new
