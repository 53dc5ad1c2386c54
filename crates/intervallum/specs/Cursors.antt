-- What a walk over the runs of a set shows, and what a search in them.
--     Position      what a walk shows: the runs that are left, how many were taken away, and how many the set has
--     Search      what a search shows: the runs of the set, and how often one was looked at
use Rattle.std.specs.Prelude.{ℕ, ℤ, List}

pub record Position : Type 0 where
  pub left : List (ℤ × ℤ)
  pub advances : ℕ
  pub count : ℕ

pub record Search : Type 0 where
  pub runs : List (ℤ × ℤ)
  pub looks : ℕ
