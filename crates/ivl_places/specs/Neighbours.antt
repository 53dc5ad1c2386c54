-- What lies beside a number in a set.
--     IsLeast x S, IsGreatest x S      x is in S, and no member is below it, or above it
--     IsRunWith v S run      the run of S that holds v: its numbers are in S, and the next number on either side is
--         not
--     IsGapAt runs v i      v lies above the first i runs and below the others; run i, if there is one, starts at the
--         next member, and the run before it ends at the previous one
--     IsBeside runs v place      what a place says about the members next to v: the run that holds it, or the gap
use Rattle.std.specs.Prelude.{◌≡◌, ℕ, ◌-◌, ◌<◌, ◌≤◌, ℤ, pos, ◌+ℤ◌, ◌-ℤ◌, ◌≤ℤ◌, List, length, slice_get, take, drop, MatchOption, IfSome}
use Rattle.ivl_laws.specs.Sets.{AtLeast, AtMost, HasNone, IsBetween, IsSubset}
use Rattle.ivl_laws.specs.Runs.{Covers}
use Rattle.ivl_places.specs.Places.{EndBelow, StartAbove}
use Rattle.ivl_places.specs.declared.place.Place.{Place}
use Rattle.ivl_places.specs.declared.place.Place.TheVariants.{In, Gap}

abbrev pub IsLeast : ℤ → (ℤ → Type 0) → Type 0
IsLeast x S = S x × ((z : ℤ) → S z → x ≤ℤ z)

abbrev pub IsGreatest : ℤ → (ℤ → Type 0) → Type 0
IsGreatest x S = S x × ((z : ℤ) → S z → z ≤ℤ x)

-- all its numbers are in S, and the next number on either side is not
pub record IsRunWith (v : ℤ) (S : ℤ → Type 0) (run : ℤ × ℤ) : Type 0 where
  pub holds : IsBetween run v
  pub inside : IsSubset (IsBetween run) S
  pub free_below : ¬ (S (run.0 -ℤ pos 1))
  pub free_above : ¬ (S (run.1 +ℤ pos 1))

-- run i starts at the next member, if there is one, and the run before it ends at the previous one
pub record IsGapAt (runs : List (ℤ × ℤ)) (v : ℤ) (i : ℕ) : Type 0 where
  pub at_most : i ≤ length runs
  pub below : EndBelow v (take i runs)
  pub above : StartAbove v (drop i runs)
  pub next : MatchOption (slice_get runs i) (HasNone (AtLeast v (Covers runs))) (λ run. IsLeast run.0 (AtLeast v (Covers runs)))
  pub first : i ≡ 0 → HasNone (AtMost v (Covers runs))
  pub previous : 0 < i → IfSome (slice_get runs (i - 1)) (λ run. IsGreatest run.1 (AtMost v (Covers runs)))

abbrev pub IsBeside : List (ℤ × ℤ) → ℤ → Place → Type 0
IsBeside runs v (In i) = IfSome (slice_get runs i) (IsRunWith v (Covers runs))
IsBeside runs v (Gap i) = IsGapAt runs v i
