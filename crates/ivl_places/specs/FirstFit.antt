-- Members of a set that stand in a row.
--     FitsAt n S v      the n numbers from v up are in S
--     IsFirstFit n S run      `run` is the lowest n consecutive numbers that are in S
use Rattle.std.specs.Prelude.{◌≡◌, ℕ, ℤ, pos, ◌+ℤ◌, ◌-ℤ◌, ◌≤ℤ◌}
use Rattle.ivl_laws.specs.Sets.{IsBetween, IsSubset}

abbrev pub FitsAt : ℕ → (ℤ → Type 0) → ℤ → Type 0
FitsAt n S v = IsSubset (IsBetween (v, (v +ℤ pos n) -ℤ pos 1)) S

pub record IsFirstFit (n : ℕ) (S : ℤ → Type 0) (run : ℤ × ℤ) : Type 0 where
  pub count : run.1 ≡ (run.0 +ℤ pos n) -ℤ pos 1
  pub members : IsSubset (IsBetween run) S
  pub lowest : (v : ℤ) → FitsAt n S v → run.0 ≤ℤ v
