-- What is found in a map: the entry of a number, the first and the last.
--     IsStoredAt E z v      v is the value of an entry that has z
--     IsFirstRunOf eq S F e, IsLastRunOf eq S F e      e is the run round the least number of S, and round the greatest
use Rattle.std.specs.Prelude.{ℤ, pos, ◌+ℤ◌, ◌-ℤ◌, Bool, List}
use Rattle.ivl_laws.specs.Sets.{IsBetween}
use Rattle.ivl_laws.specs.Counts.{IsIn}
use Rattle.ivl_places.specs.Neighbours.{IsGreatest, IsLeast}

-- the longest run round a number whose numbers have equal values: the run, and the value
--     IsRunOfValue eq z F e      e's run has z, F has e's value at all its numbers, and not at the next one on either side
pub record IsRunOfValue {V : Type 0} (eq : V → V → Bool) (z : ℤ) (F : ℤ → V → Type 0) (e : (ℤ × ℤ) × V) : Type 0 where
  pub holds : IsBetween e.0 z
  pub inside : (y : ℤ) → IsBetween e.0 y → F y e.1
  pub differs_below : ¬ (F (e.0.0 -ℤ pos 1) e.1)
  pub differs_above : ¬ (F (e.0.1 +ℤ pos 1) e.1)

abbrev pub IsStoredAt : {V : Type 0} → List ((ℤ × ℤ) × V) → ℤ → V → Type 0
IsStoredAt E z v = (p : ℤ × ℤ) × IsIn E (p, v) × IsBetween p z

pub record IsFirstRunOf {V : Type 0} (eq : V → V → Bool) (S : ℤ → Type 0) (F : ℤ → V → Type 0) (e : (ℤ × ℤ) × V) : Type 0 where
  pub at : ℤ
  pub least : IsLeast at S
  pub run : IsRunOfValue eq at F e

pub record IsLastRunOf {V : Type 0} (eq : V → V → Bool) (S : ℤ → Type 0) (F : ℤ → V → Type 0) (e : (ℤ × ℤ) × V) : Type 0 where
  pub at : ℤ
  pub greatest : IsGreatest at S
  pub run : IsRunOfValue eq at F e
