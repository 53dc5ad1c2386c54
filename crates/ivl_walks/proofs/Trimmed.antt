-- A list of runs of which nothing below a number is left in the first run.
use Rattle.std.proofs.Common.{◌≡◌, ℤ, pos, ◌+ℤ◌, ◌≤ℤ◌, List, [], ◌∷◌, inl, refl, ap, arith}
use Rattle.std.proofs.lemmas.Int.{ints, clamps}
use Rattle.std.specs.Int.{int_max}
use Rattle.ivl_laws.specs.Sets.{Above, IsBetween, SameMembers}
use Rattle.ivl_laws.specs.Runs.{IsRunListIn, StartsAfter}
use Rattle.ivl_laws.proofs.Runs.{lower_end, pair_same}

abbrev pub trimmed : ℤ → List (ℤ × ℤ) → List (ℤ × ℤ)
trimmed v [] = []
trimmed v (p ∷ L) = (int_max p.0 v, p.1) ∷ L

-- a list that starts no lower
pub trimmed_after : (v u : ℤ) (L : List (ℤ × ℤ)) → StartsAfter u L → v ≤ℤ (u +ℤ pos 2) → trimmed v L ≡ L
trimmed_after v u [] s h = refl
trimmed_after v u (p ∷ L) s h = ap (λ (q : ℤ × ℤ). q ∷ L) (pair_same (int_max p.0 v, p.1) p (omega (arith, ints, clamps)) refl)

pub trimmed_within : (v : ℤ) (whole : ℤ × ℤ) (L : List (ℤ × ℤ)) → v ≡ whole.0 → IsRunListIn whole L → trimmed v L ≡ L
trimmed_within v whole [] e l = refl
trimmed_within v whole (p ∷ L) e l =
    let low = (l.within p.0 (inl (lower_end p l.maximal.0))).0 in
    ap (λ (q : ℤ × ℤ). q ∷ L) (pair_same (int_max p.0 v, p.1) p (omega (arith, ints, clamps)) refl)

-- what is left of a run above one that ends before it
pub trimmed_above : (q : ℤ × ℤ) (u v w : ℤ) → w ≤ℤ u → v ≡ u +ℤ pos 1 → SameMembers (IsBetween (int_max q.0 v, q.1)) (Above u (IsBetween (int_max q.0 w, q.1)))
trimmed_above q u v w h e z = (
  (λ (low, high). ((omega (arith, ints, clamps), high), omega (arith, ints, clamps))),
  (λ ((low, high), lt). (omega (arith, ints, clamps), high)),
)
