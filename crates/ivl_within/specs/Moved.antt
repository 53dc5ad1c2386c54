-- The results of two lists of runs of which one has one run alone: they ascend, one for each run of the other list.
--     HasOneRun a b      one of the two has just one run
--     image_count a b      how many results there are
--     image_by op a b k      the result at place k, where they ascend
use Rattle.std.specs.Prelude.{◌≡◌, ◌⊎◌, ℕ, ℤ, List, [], ◌∷◌, length}
use Rattle.ivl_images.specs.Sweeps.{run_at}
use Rattle.ivl_within.specs.Within.{pair_by}
use Rattle.ivl_within.specs.Fronts.{nth_by}
use Rattle.ivl_within.specs.declared.within.Combined.{Combined}

abbrev pub HasOneRun : List (ℤ × ℤ) → List (ℤ × ℤ) → Type 0
HasOneRun a b = (length a ≡ 1) ⊎ (length b ≡ 1)

abbrev pub image_count : List (ℤ × ℤ) → List (ℤ × ℤ) → ℕ
image_count [] b = 0
image_count (p ∷ []) b = length b
image_count (p ∷ q ∷ a) b = length (p ∷ q ∷ a)

abbrev pub image_by : Combined → List (ℤ × ℤ) → List (ℤ × ℤ) → ℕ → ℤ × ℤ
image_by op [] b k = run_at [] k
image_by op (p ∷ []) b k = pair_by op p (nth_by op b k)
image_by op (p ∷ q ∷ a) b k = pair_by op (run_at (p ∷ q ∷ a) k) (nth_by op b 0)
