-- Where a set is cut in two.
--     IsHalf wanted below all      of all members those from the one with so many below it to the best are no more than half, or half and one more
--     IsMiddle wanted S x      x is a member, and so many are as good as it
use Rattle.std.specs.Prelude.{ℕ, ◌+◌, ◌≤◌, ℤ}
use Rattle.ivl_laws.specs.Counts.{IsCountOf}
use Rattle.ivl_laws.specs.Sets.{Below}
use Rattle.ivl_search.specs.declared.search.choice.Wanted.{Wanted}
use Rattle.ivl_search.specs.declared.search.choice.Wanted.TheVariants.{Least, Greatest}

abbrev pub IsHalf : Wanted → ℕ → ℕ → Type 0
IsHalf Least below all = below + below + 1 ≤ all
IsHalf Greatest below all = all ≤ below + below + 1

pub record IsMiddle (wanted : Wanted) (S : ℤ → Type 0) (x : ℤ) : Type 0 where
  pub member : S x
  pub below : ℕ
  pub all : ℕ
  pub counted_below : IsCountOf below (Below x S)
  pub counted : IsCountOf all S
  pub half : IsHalf wanted below all
