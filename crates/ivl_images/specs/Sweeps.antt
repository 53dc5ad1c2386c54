-- Results over each pair of runs.
--     IsResultOf op p q r      r holds the results of two runs: the sums, the differences, the least interval of the products
--     ResultsBy op S T      the members of the answer
--     ExactResultsBy op S T      the results over one member of each, which have to fit
--     run_at L i      the run at place i of L, which is longer
--     AreImages op L M entries      one entry for each pair of runs: that of run `i` and run `j` is at index `i * m +
--         j`
--     result_of op p q      the pair that holds the results of two runs
--     IsShift op      the results with a value are the runs, moved by it
use Rattle.std.specs.Prelude.{◌≡◌, ℕ, ◌+◌, ◌*◌, ◌<◌, ℤ, List, length, slice_index_or, pos}
use Rattle.ivl_laws.specs.Sets.{IsBetween, SameMembers, Sums, Differences, ExactProducts, Products, IsHullOf}
use Rattle.ivl_laws.specs.Runs.{Covers}
use Rattle.ivl_laws.specs.Arithmetic.{interval_sum, interval_difference, corner_hull}
use Rattle.ivl_images.specs.declared.op.Op.{Op}
use Rattle.ivl_images.specs.declared.op.Op.TheVariants.{Sum, Difference, Product}

abbrev pub IsResultOf : Op → ℤ × ℤ → ℤ × ℤ → ℤ × ℤ → Type 0
IsResultOf Sum p q r = SameMembers (IsBetween r) (Sums (IsBetween p) (IsBetween q))
IsResultOf Difference p q r = SameMembers (IsBetween r) (Differences (IsBetween p) (IsBetween q))
IsResultOf Product p q r = IsHullOf r (ExactProducts (IsBetween p) (IsBetween q))

abbrev pub ResultsBy : Op → (ℤ → Type 0) → (ℤ → Type 0) → ℤ → Type 0
ResultsBy Sum = Sums
ResultsBy Difference = Differences
ResultsBy Product = Products

abbrev pub ExactResultsBy : Op → (ℤ → Type 0) → (ℤ → Type 0) → ℤ → Type 0
ExactResultsBy Sum = Sums
ExactResultsBy Difference = Differences
ExactResultsBy Product = ExactProducts

abbrev pub run_at : List (ℤ × ℤ) → ℕ → ℤ × ℤ
run_at L i = slice_index_or L i (pos 0, pos 0)

pub record AreImages (op : Op) (L M entries : List (ℤ × ℤ)) : Type 0 where
  pub count : length entries ≡ length L * length M
  pub each : (i j : ℕ) → i < length L → j < length M → IsResultOf op (run_at L i) (run_at M j) (run_at entries (i * length M + j))
  pub members : SameMembers (Covers entries) (ResultsBy op (Covers L) (Covers M))

abbrev pub result_of : Op → ℤ × ℤ → ℤ × ℤ → ℤ × ℤ
result_of Sum = interval_sum
result_of Difference = interval_difference
result_of Product = corner_hull

abbrev pub IsShift : Op → Type 0
IsShift Sum = Unit {0}
IsShift Difference = Unit {0}
IsShift Product = ⊥
