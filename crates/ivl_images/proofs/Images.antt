-- The results over each pair of runs, for each operation.
use Rattle.std.proofs.Common.{◌≡◌, ℕ, suc, ◌+◌, ◌*◌, ◌<◌, ◌≤◌, ℤ, pos, ◌≤ℤ◌, List, [], ◌∷◌, ◌++◌, append_assoc, map, take, length, get_or, take_all, sym, ap, ◌∙◌, subst, arith}
use Rattle.std.proofs.lemmas.List.{map_more}
use Rattle.std.proofs.lemmas.Nat.{mul-le}
use Rattle.ivl_laws.specs.Sets.{IsBetween, IsSubset, SameMembers, Sums, Differences, ExactProducts, IsHullOf, Only}
use Rattle.ivl_laws.specs.Runs.{Covers, IsMaximal}
use Rattle.ivl_laws.specs.Arithmetic.{pairwise}
use Rattle.ivl_laws.proofs.Lengths.{length-pairwise}
use Rattle.ivl_laws.proofs.Places.{get_or-pairwise, open_at, covers_at}
use Rattle.ivl_laws.proofs.Products.{sums_of_runs, differences_of_runs, products_of_runs, sums_of_intervals, differences_of_intervals, hull_of_products}
use Rattle.ivl_laws.proofs.Results.{sum_is_interval_sum, difference_is_interval_difference, product_is_corner_hull}
use lib.Signed.{≤ℤ_refl}
use native.Mathlib.Nat.{suc-mul}
use Rattle.ivl_laws.proofs.Runs.{≤ℤ_antisymm}
use Rattle.ivl_laws.proofs.Spans.{IsHullOf-same}
use Rattle.ivl_laws.proofs.SetLaws.{sums_are_monotone, differences_are_monotone, exact_products_are_monotone, sums-only, differences-only, products-only}
use Rattle.ivl_images.specs.Sweeps.{IsResultOf, ResultsBy, ExactResultsBy, AreImages, result_of, run_at}
use Rattle.ivl_images.specs.declared.op.Op.{Op}
use Rattle.ivl_images.specs.declared.op.Op.TheVariants.{Sum, Difference, Product}

result_is : (op : Op) (p q : ℤ × ℤ) → p.0 ≤ℤ p.1 → q.0 ≤ℤ q.1 → IsResultOf op p q (result_of op p q)
result_is Sum p q o o' = sums_of_intervals p q o o'
result_is Difference p q o o' = differences_of_intervals p q o o'
result_is Product p q o o' = hull_of_products p q o o'

pub result_members : (op : Op) (L M : List (ℤ × ℤ)) → IsMaximal L → IsMaximal M → SameMembers (Covers (pairwise (result_of op) L M)) (ResultsBy op (Covers L) (Covers M))
result_members Sum L M l m z = let e = sums_of_runs L M z l m in (e.1, e.0)
result_members Difference L M l m z = let e = differences_of_runs L M z l m in (e.1, e.0)
result_members Product L M l m z = let e = products_of_runs L M z l m in (e.1, e.0)

images_are : (op : Op) (L M : List (ℤ × ℤ)) → IsMaximal L → IsMaximal M → AreImages op L M (pairwise (result_of op) L M)
images_are op L M l m = record {
  count = length-pairwise (result_of op) L M;
  each = λ i j h k. subst (IsResultOf op (run_at L i) (run_at M j)) (sym (get_or-pairwise (result_of op) L M i j (pos 0, pos 0) h k))
      (result_is op (run_at L i) (run_at M j) (open_at L i (pos 0, pos 0) l h) (open_at M j (pos 0, pos 0) m k));
  members = result_members op L M l m;
}

are_images : (op : Op) (L M E : List (ℤ × ℤ)) → IsMaximal L → IsMaximal M → E ≡ pairwise (result_of op) L M → AreImages op L M E
are_images op L M E l m e = subst (AreImages op L M) (sym e) (images_are op L M l m)

pub exact_results_are_monotone : (op : Op) (S S' T T' : ℤ → Type 0) → IsSubset S S' → IsSubset T T' → IsSubset (ExactResultsBy op S T) (ExactResultsBy op S' T')
exact_results_are_monotone Sum S S' T T' h k = sums_are_monotone S S' T T' h k
exact_results_are_monotone Difference S S' T T' h k = differences_are_monotone S S' T T' h k
exact_results_are_monotone Product S S' T T' h k = exact_products_are_monotone S S' T T' h k

-- p is the run at a place of the first list
pub row_fits : (op : Op) (L : List (ℤ × ℤ)) (T W : ℤ → Type 0) (i : ℕ) (p : ℤ × ℤ) → i < length L → p ≡ get_or L i p → IsSubset (ExactResultsBy op (Covers L) T) W →
    IsSubset (ExactResultsBy op (IsBetween p) T) W
row_fits op L T W i p h e f z r = f z (exact_results_are_monotone op (IsBetween p) (Covers L) T T
    (λ y b. covers_at L i p y h (subst (λ (t : ℤ × ℤ). IsBetween t y) e b)) (λ y t. t) z r)

pub entry_fits : (op : Op) (S W : ℤ → Type 0) (M : List (ℤ × ℤ)) (j : ℕ) (q : ℤ × ℤ) → j < length M → q ≡ get_or M j q → IsSubset (ExactResultsBy op S (Covers M)) W →
    IsSubset (ExactResultsBy op S (IsBetween q)) W
entry_fits op S W M j q h e f z r = f z (exact_results_are_monotone op S S (IsBetween q) (Covers M)
    (λ y s. s) (λ y b. covers_at M j q y h (subst (λ (t : ℤ × ℤ). IsBetween t y) e b)) z r)

pub open_here : (L : List (ℤ × ℤ)) (i : ℕ) (p : ℤ × ℤ) → IsMaximal L → i < length L → p ≡ get_or L i p → p.0 ≤ℤ p.1
open_here L i p m h e = subst (λ (t : ℤ × ℤ). t.0 ≤ℤ t.1) (sym e) (open_at L i p m h)

-- the entries are made of all runs of the first list
pub are_images_to : (op : Op) (L M E : List (ℤ × ℤ)) (i : ℕ) → IsMaximal L → IsMaximal M → length L ≤ i → E ≡ pairwise (result_of op) (take i L) M → AreImages op L M E
are_images_to op L M E i l m h is = are_images op L M E l m (is ∙ ap (λ (N : List (ℤ × ℤ)). pairwise (result_of op) N M) (take_all i L h))

-- ---- results with one value

only_is_between : (v : ℤ) → SameMembers (Only v) (IsBetween (v, v))
only_is_between v z = (
  (λ e. (subst (λ (t : ℤ). v ≤ℤ t) (sym e) (≤ℤ_refl v), subst (λ (t : ℤ). t ≤ℤ v) (sym e) (≤ℤ_refl v))),
  (λ b. ≤ℤ_antisymm z v b.1 b.0),
)

module _ (p : ℤ × ℤ) (v : ℤ) (r : ℤ × ℤ) (o : p.0 ≤ℤ p.1) where
  one : IsSubset (Only v) (IsBetween (v, v))
  one z = (only_is_between v z).0

  two : IsSubset (IsBetween (v, v)) (Only v)
  two z = (only_is_between v z).1

  same : IsSubset (IsBetween p) (IsBetween p)
  same z b = b

  pub sum_with_is : SameMembers (IsBetween r) (Sums (IsBetween p) (Only v)) → r ≡ result_of Sum p (v, v)
  sum_with_is h = sum_is_interval_sum p (v, v) r o (≤ℤ_refl v) (λ z. (
    (λ b. sums_are_monotone (IsBetween p) (IsBetween p) (Only v) (IsBetween (v, v)) same one z ((h z).0 b)),
    (λ s. (h z).1 (sums_are_monotone (IsBetween p) (IsBetween p) (IsBetween (v, v)) (Only v) same two z s)),
  ))

  pub difference_with_is : SameMembers (IsBetween r) (Differences (IsBetween p) (Only v)) → r ≡ result_of Difference p (v, v)
  difference_with_is h = difference_is_interval_difference p (v, v) r o (≤ℤ_refl v) (λ z. (
    (λ b. differences_are_monotone (IsBetween p) (IsBetween p) (Only v) (IsBetween (v, v)) same one z ((h z).0 b)),
    (λ s. (h z).1 (differences_are_monotone (IsBetween p) (IsBetween p) (IsBetween (v, v)) (Only v) same two z s)),
  ))

  pub product_with_is : IsHullOf r (ExactProducts (IsBetween p) (Only v)) → r ≡ result_of Product p (v, v)
  product_with_is h = product_is_corner_hull p (v, v) r o (≤ℤ_refl v) (IsHullOf-same (ExactProducts (IsBetween p) (Only v)) (ExactProducts (IsBetween p) (IsBetween (v, v))) r (λ z. (
    exact_products_are_monotone (IsBetween p) (IsBetween p) (Only v) (IsBetween (v, v)) same one z,
    exact_products_are_monotone (IsBetween p) (IsBetween p) (IsBetween (v, v)) (Only v) same two z,
  )) h)

results_with : (op : Op) (S : ℤ → Type 0) (v : ℤ) → SameMembers (ResultsBy op S (Covers ((v, v) ∷ []))) (ResultsBy op S (Only v))
results_with Sum S v z = let e = sums-only S v z in (e.1, e.0)
results_with Difference S v z = let e = differences-only S v z in (e.1, e.0)
results_with Product S v z = let e = products-only S v z in (e.1, e.0)

-- the entries with one value cover the results
pub results_with_value : (op : Op) (L L' E : List (ℤ × ℤ)) (v : ℤ) (i : ℕ) → L ≡ L' → IsMaximal L' → length L ≤ i → E ≡ pairwise (result_of op) (take i L) ((v, v) ∷ []) →
    SameMembers (Covers E) (ResultsBy op (Covers L') (Only v))
results_with_value op L L' E v i e l h is =
    let whole : E ≡ pairwise (result_of op) L ((v, v) ∷ []) = is ∙ ap (λ (N : List (ℤ × ℤ)). pairwise (result_of op) N ((v, v) ∷ [])) (take_all i L h) in
    let there = result_members op L ((v, v) ∷ []) (subst IsMaximal (sym e) l) (≤ℤ_refl v, tt, tt) in
    subst (λ (N : List (ℤ × ℤ)). SameMembers (Covers E) (ResultsBy op (Covers N) (Only v))) e
    (subst (λ (N : List (ℤ × ℤ)). SameMembers (Covers N) (ResultsBy op (Covers L) (Only v))) (sym whole)
    (λ z. ((λ c. (results_with op (Covers L) v z).0 ((there z).0 c)), (λ r. (there z).1 ((results_with op (Covers L) v z).1 r)))))

pub open_here_seen : (L L' : List (ℤ × ℤ)) (i : ℕ) (p : ℤ × ℤ) → L ≡ L' → IsMaximal L' → i < length L → p ≡ get_or L i p → p.0 ≤ℤ p.1
open_here_seen L L' i p e m h is = open_here L i p (subst IsMaximal (sym e) m) h is

-- ---- one result more

pub next_result : {X Y : Type 0} (f : X → Y) (xs : List X) (i : ℕ) (d : X) (old L M : List Y) (y : Y) → i < length xs → d ≡ get_or xs i d → L ≡ old ++ map f (take i xs) → M ≡ L ++ y ∷ [] → y ≡ f d → M ≡ old ++ map f (take (i + 1) xs)
next_result f xs i d old L M y h e p q s =
    let more = map_more f xs i d h in
    let joined = append_assoc old (map f (take i xs)) (y ∷ []) in
    cc

-- ---- room for the rows

pub row_has_room : (i m n len capacity : ℕ) → i < n → len ≡ i * m → n * m ≤ capacity → len + m ≤ capacity
row_has_room i m n len capacity h e r = let row : suc i * m ≤ n * m = mul-le (suc i) m n m (omega arith) (omega arith) in omega (arith, suc-mul i m)
