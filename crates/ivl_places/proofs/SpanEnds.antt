-- The runs that an edit may change, by the places of its two ends.
use Rattle.std.proofs.Common.{◌≡◌, ◌∙◌, ℕ, zero, suc, ◌<◌, ◌≤◌, ℤ, ◌≤ℤ◌, List, [], ◌∷◌, length, take, drop, Some, None, sym, subst, arith}
use Rattle.std.specs.Prelude.{Option, slice_get, IsSomeAnd}
use Rattle.ivl_laws.specs.Sets.{IsBetween}
use Rattle.ivl_laws.specs.Runs.{StartsBy}
use Rattle.ivl_places.specs.Edits.{IsSpan}
use Rattle.ivl_places.specs.Places.{EndBelow, EndsFrom, StartAbove}
use Rattle.ivl_places.proofs.Windows.{IsSplitAt}

pub some_is_less : (L : List (ℤ × ℤ)) (i : ℕ) (X : ℤ × ℤ → Type 0) → IsSomeAnd (slice_get L i) X → i < length L
some_is_less [] i X h = absurd h
some_is_less (p ∷ L) zero X h = omega arith
some_is_less (p ∷ L) (suc i) X h = let k = some_is_less L i X h in omega arith

-- a run that starts at v or below and ends at v or above has it
pub held_up_to : (o : Option (ℤ × ℤ)) (run : ℤ × ℤ) (v : ℤ) → o ≡ Some run → IsSomeAnd o (λ p. p.0 ≤ℤ v) → v ≤ℤ run.1 → IsSomeAnd o (λ p. IsBetween p v)
held_up_to None run v e low high = absurd low
held_up_to (Some p) run v e low high = let same : p ≡ run = cc in (low, subst (λ (q : ℤ × ℤ). v ≤ℤ q.1) (sym same) high)

-- the first end splits the runs at place i, and the second ends them at place n; the lists are one
pub span_of_split : (L M N : List (ℤ × ℤ)) (u v : ℤ) (i j n : ℕ) → M ≡ L → L ≡ N → IsSplitAt u L i j → i ≤ n → n ≤ length M → StartsBy v (take n M) → StartAbove v (drop n M) → IsSpan N u v i n
span_of_split L M N u v i j n e f split order most starts above = record {
  in_order = order;
  at_most = subst (λ (K : List (ℤ × ℤ)). n ≤ length K) (e ∙ f) most;
  below = subst (λ (K : List (ℤ × ℤ)). EndBelow u (take i K)) f split.below;
  ends = subst (λ (K : List (ℤ × ℤ)). EndsFrom u (drop i K)) f split.rest;
  starts = subst (λ (K : List (ℤ × ℤ)). StartsBy v (take n K)) (e ∙ f) starts;
  above = subst (λ (K : List (ℤ × ℤ)). StartAbove v (drop n K)) (e ∙ f) above;
}
