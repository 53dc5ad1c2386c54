-- Products of the members of two lists.
--     Multiplies whole S T product      the runs of the products; none where some product is outside the range
use Rattle.std.specs.Prelude.{ℤ, List, Option, MatchOption}
use Rattle.ivl_laws.specs.Sets.{ExactProducts, IsBetween, IsSubset, Products}
use Rattle.ivl_laws.specs.Runs.{IsRunsOf}

abbrev pub Multiplies : ℤ × ℤ → (ℤ → Type 0) → (ℤ → Type 0) → Option (List (ℤ × ℤ)) → Type 0
Multiplies whole S T product = MatchOption product
    (¬ (IsSubset (ExactProducts S T) (IsBetween whole)))
    (λ L. IsSubset (ExactProducts S T) (IsBetween whole) × IsRunsOf L (Products S T))
