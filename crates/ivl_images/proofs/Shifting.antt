-- The runs of a list moved by a value: as many, as wide, and as far apart.
use Rattle.std.proofs.Common.{◌≡◌, ℕ, ◌≤◌, ℤ, ◌≤ℤ◌, List, [], ◌∷◌, length, map, take, take_all, refl, sym, ap, subst, ◌∙◌, arith}
use Rattle.std.proofs.lemmas.Int.{ints}
use Rattle.std.proofs.lemmas.List.Concat.{flat_map_single}
use Rattle.std.proofs.lemmas.List.Sums.{sum_by-cons}
use Rattle.ivl_laws.specs.Sets.{IsBetween, IsSubset, SameMembers, Only}
use Rattle.ivl_laws.specs.Runs.{Covers, IsMaximal, IsRunListIn, IsRunsOf, StartsAfter}
use Rattle.ivl_laws.specs.Arithmetic.{pairwise}
use Rattle.ivl_laws.specs.Bounds.{width_of}
use Rattle.ivl_laws.specs.Counts.{IsCountOf}
use Rattle.ivl_laws.proofs.Intervals.{width_of-filled}
use Rattle.ivl_laws.proofs.Widths.{total_width, count_is_total_width}
use Rattle.ivl_images.specs.Sweeps.{ExactResultsBy, IsShift, ResultsBy, result_of}
use Rattle.ivl_images.specs.declared.op.Op.{Op}
use Rattle.ivl_images.specs.declared.op.Op.TheVariants.{Sum, Difference, Product}
use Rattle.ivl_images.proofs.Images.{results_with_value}

abbrev pub moved : Op → ℤ → ℤ × ℤ → ℤ × ℤ
moved op v p = result_of op p (v, v)

width_of-moved : (op : Op) (v : ℤ) (p : ℤ × ℤ) → IsShift op → p.0 ≤ℤ p.1 → width_of (moved op v p) ≡ width_of p
width_of-moved Sum v p s o =
    let a = width_of-filled p o in
    let b = width_of-filled (moved Sum v p) (omega (arith, ints)) in
    omega (arith, ints)
width_of-moved Difference v p s o =
    let a = width_of-filled p o in
    let b = width_of-filled (moved Difference v p) (omega (arith, ints)) in
    omega (arith, ints)
width_of-moved Product v p s o = absurd s

pub total_width-moved : (op : Op) (v : ℤ) (L : List (ℤ × ℤ)) → IsShift op → IsMaximal L → total_width (map (moved op v) L) ≡ total_width L
total_width-moved op v [] s m = refl
total_width-moved op v (p ∷ L) s m =
    let a = sum_by-cons width_of (moved op v p) (map (moved op v) L) in
    let b = sum_by-cons width_of p L in
    let c = width_of-moved op v p s m.0 in
    let d = total_width-moved op v L s m.2 in
    omega (arith, a, b, c, d)

StartsAfter-moved : (op : Op) (v : ℤ) (p : ℤ × ℤ) (L : List (ℤ × ℤ)) → IsShift op → StartsAfter p.1 L → StartsAfter (moved op v p).1 (map (moved op v) L)
StartsAfter-moved op v p [] s h = tt
StartsAfter-moved Sum v p (q ∷ L) s h = omega (arith, ints)
StartsAfter-moved Difference v p (q ∷ L) s h = omega (arith, ints)
StartsAfter-moved Product v p (q ∷ L) s h = absurd s

is_filled : (op : Op) (v : ℤ) (p : ℤ × ℤ) → IsShift op → p.0 ≤ℤ p.1 → (moved op v p).0 ≤ℤ (moved op v p).1
is_filled Sum v p s o = omega (arith, ints)
is_filled Difference v p s o = omega (arith, ints)
is_filled Product v p s o = absurd s

pub IsMaximal-moved : (op : Op) (v : ℤ) (L : List (ℤ × ℤ)) → IsShift op → IsMaximal L → IsMaximal (map (moved op v) L)
IsMaximal-moved op v [] s m = tt
IsMaximal-moved op v (p ∷ L) s m = (is_filled op v p s m.0, StartsAfter-moved op v p L s m.1, IsMaximal-moved op v L s m.2)

results_are_exact : (op : Op) (S T : ℤ → Type 0) → IsShift op → IsSubset (ResultsBy op S T) (ExactResultsBy op S T)
results_are_exact Sum S T s z r = r
results_are_exact Difference S T s z r = r
results_are_exact Product S T s z r = absurd s

-- M has the runs of L, moved by v, and n members
pub record IsMoved (whole : ℤ × ℤ) (op : Op) (v : ℤ) (L : List (ℤ × ℤ)) (n : ℕ) (M : List (ℤ × ℤ)) : Type 0 where
  pub list : IsRunListIn whole M
  pub count : IsCountOf n (Covers M)
  pub runs : IsRunsOf M (ResultsBy op (Covers L) (Only v))

moved_list : (whole : ℤ × ℤ) (op : Op) (v : ℤ) (L : List (ℤ × ℤ)) (n : ℕ) → IsShift op → IsMaximal L → IsCountOf n (Covers L) →
    IsSubset (ExactResultsBy op (Covers L) (Only v)) (IsBetween whole) → IsMoved whole op v L n (map (moved op v) L)
moved_list whole op v L n s m c fits =
    let maximal = IsMaximal-moved op v L s m in
    let there : SameMembers (Covers (map (moved op v) L)) (ResultsBy op (Covers L) (Only v)) =
    results_with_value op L L (map (moved op v) L) v (length L) refl m (omega arith)
    (sym (flat_map_single (moved op v) L) ∙ ap (λ (N : List (ℤ × ℤ)). pairwise (result_of op) N ((v, v) ∷ [])) (sym (take_all (length L) L (omega arith)))) in
    record {
      list = record { maximal = maximal; within = λ z m. fits z (results_are_exact op (Covers L) (Only v) s z ((there z).0 m)) };
      count = (count_is_total_width (map (moved op v) L) n maximal).1 ((count_is_total_width L n m).0 c ∙ sym (total_width-moved op v L s m));
      runs = record { maximal = maximal; members = there };
    }

-- K is the list as it was read, and M what was written for its first i runs
pub is_moved : (whole : ℤ × ℤ) (op : Op) (v : ℤ) (K L : List (ℤ × ℤ)) (n i : ℕ) (M : List (ℤ × ℤ)) → K ≡ L → IsShift op → IsMaximal L → IsCountOf n (Covers L) →
    IsSubset (ExactResultsBy op (Covers L) (Only v)) (IsBetween whole) → length K ≤ i → M ≡ map (moved op v) (take i K) → IsMoved whole op v L n M
is_moved whole op v K L n i M e s m c fits h is =
    let all : M ≡ map (moved op v) L = is ∙ ap (map (moved op v)) (take_all i K h ∙ e) in
    subst (IsMoved whole op v L n) (sym all) (moved_list whole op v L n s m c fits)
