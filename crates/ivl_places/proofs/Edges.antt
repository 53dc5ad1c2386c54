-- The last run of a list, and a place that was found in the list as a search saw it.
use Rattle.std.proofs.Common.{◌≡◌, ℕ, zero, suc, ◌+◌, ℤ, ◌≤ℤ◌, List, [], ◌∷◌, Some, length, sym, subst, arith}
use Rattle.std.proofs.lemmas.Int.{ints}
use Rattle.std.specs.Prelude.{slice_get, IsSomeAnd}
use Rattle.ivl_laws.specs.Sets.{IsBetween}
use Rattle.ivl_laws.specs.Runs.{Covers, IsMaximal, StartsBy, runs_below}
use Rattle.ivl_places.proofs.Windows.{IsSplitAt, split_by_gap, split_by_run}

pub starts_of_last : (L : List (ℤ × ℤ)) (k : ℕ) (p : ℤ × ℤ) (v a : ℤ) → IsMaximal L → k + 1 ≡ length L → slice_get L k ≡ Some p → a ≡ p.0 → a ≤ℤ v → StartsBy v L
starts_of_last [] k p v a m n e f h = tt
starts_of_last (q ∷ []) zero p v a m n e f h = let same : q ≡ p = cc in (subst (λ (t : ℤ × ℤ). t.0 ≤ℤ v) (sym same) (omega (arith, ints, f, h)), tt)
starts_of_last (q ∷ []) (suc k) p v a m n e f h = absurd (omega arith)
starts_of_last (q ∷ r ∷ L) zero p v a m n e f h = absurd (omega arith)
starts_of_last (q ∷ r ∷ L) (suc k) p v a m n e f h =
    let rest = starts_of_last (r ∷ L) k p v a m.2 (omega arith) e f h in
    let o = m.0 in
    let far = m.1 in
    let next = rest.0 in
    (omega (arith, ints, o, far, next), rest)

-- M is the list L as a search saw it
pub seen_in_run : (L M : List (ℤ × ℤ)) (i : ℕ) (v : ℤ) → M ≡ L → IsMaximal L → IsSomeAnd (slice_get M i) (λ run. IsBetween run v) → IsSplitAt v L i (i + 1)
seen_in_run L M i v e m h = split_by_run L i v m (subst (λ (K : List (ℤ × ℤ)). IsSomeAnd (slice_get K i) (λ run. IsBetween run v)) e h)

pub seen_in_gap : (L M : List (ℤ × ℤ)) (i : ℕ) (v : ℤ) → M ≡ L → IsMaximal L → ¬ (Covers M v) → runs_below v M ≡ i → IsSplitAt v L i i
seen_in_gap L M i v e m n h = split_by_gap L i v m (subst (λ (K : List (ℤ × ℤ)). ¬ (Covers K v)) e n) (subst (λ (K : List (ℤ × ℤ)). runs_below v K ≡ i) e h)
