-- The steps of gathering a list of runs, where its entries are read by place.
use Rattle.std.proofs.Common.{◌≡◌, ℕ, ℤ, ◌+◌, ◌<◌, ◌≤ℤ◌, List, length, get_or, add-one, sym, take, take-suc, true≢false, false, true, arith, is_lt, int_cmp, ◌<ℤ◌, ◌∙◌}
use Rattle.std.proofs.lemmas.Int.{ints, by_lt_z}
use Rattle.ivl_laws.specs.Sets.{IsBetween, Union}
use Rattle.ivl_laws.specs.Runs.{Covers, IsRunsOf}
use Rattle.ivl_laws.proofs.Walks.{gathering_takes}

-- what a sort by the lower numbers says of two neighbours
pub not_below : (x y : ℤ) → is_lt (int_cmp y x) ≡ false → x ≤ℤ y
not_below x y e = by_lt_z y x (λ lt. absurd (true≢false (sym (below lt) ∙ e))) (λ le. le)
  where
    below : y <ℤ x → is_lt (int_cmp y x) ≡ true
    below lt = grind (arith, ints)

pub gathering_at : (written added list : List (ℤ × ℤ)) (i : ℕ) (d : ℤ × ℤ) → i < length list → IsRunsOf written (Covers (take i list)) →
    IsRunsOf added (Union (Covers written) (IsBetween (get_or list i d))) → IsRunsOf added (Covers (take (i + 1) list))
gathering_at written added list i d h r s =
    gathering_takes written added (take i list) (take (i + 1) list) (get_or list i d) (rw (add-one, take-suc list i d)) r s
