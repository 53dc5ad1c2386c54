-- What adding a run to the end of a maximal list makes, where the last run is read by its place.
use Rattle.std.proofs.Common.{◌≡◌, ◌↔◌, Bool, true, false, IsTrue, ℕ, ◌+◌, ℤ, pos, ◌+ℤ◌, ◌≤ℤ◌, List, [], ◌∷◌, ◌++◌, length, get_or, set, sym, subst, arith}
use Rattle.std.proofs.lemmas.Int.{ints, by_lt_z}
use Rattle.std.proofs.Math.Bool.{true≢false}
use Rattle.std.specs.Int.{int_max}
use Rattle.ivl_laws.specs.Runs.{IsMaximal, StartsBy, AddsRun}
use lib.Signed.{≤ℤ_refl}
use Rattle.ivl_laws.proofs.Places.{open_at}
use Rattle.ivl_laws.proofs.Merging.{first_run, run_apart_at, run_joined_at, StartsBy-push, StartsBy-set, StartsBy-at_last}

pub adds_first : (q : ℤ × ℤ) → q.0 ≤ℤ q.1 → AddsRun [] q (q ∷ [])
adds_first q o = record { runs = first_run q o; starts = (≤ℤ_refl q.0, tt) }

pub adds_to_none : (L : List (ℤ × ℤ)) (q : ℤ × ℤ) → length L ≡ 0 → q.0 ≤ℤ q.1 → AddsRun L q (L ++ q ∷ [])
adds_to_none [] q e o = adds_first q o
adds_to_none (p ∷ L) q e o = absurd (omega arith)

pub adds_apart_at : (L : List (ℤ × ℤ)) (k : ℕ) (d q : ℤ × ℤ) → k + 1 ≡ length L → IsMaximal L → StartsBy q.0 L →
    ((get_or L k d).1 +ℤ pos 2) ≤ℤ q.0 → q.0 ≤ℤ q.1 → AddsRun L q (L ++ q ∷ [])
adds_apart_at L k d q e m s h o = record {
  runs = run_apart_at L k d q e m h o;
  starts = StartsBy-push L q q.0 s (≤ℤ_refl q.0);
}

pub adds_joined_at : (L : List (ℤ × ℤ)) (k : ℕ) (d q r : ℤ × ℤ) → k + 1 ≡ length L → IsMaximal L → StartsBy q.0 L →
    q.0 ≤ℤ ((get_or L k d).1 +ℤ pos 1) → r.0 ≡ (get_or L k d).0 → r.1 ≡ int_max (get_or L k d).1 q.1 → AddsRun L q (set L k r)
adds_joined_at L k d q r e m s h low high = record {
  runs = run_joined_at L k d q r e m s h low high;
  starts = StartsBy-set L k r q.0 s (let start = StartsBy-at_last L k d q.0 e s in omega (arith, ints));
}

-- ---- the same, where the new run is past the last

pub adds_past_last : (L : List (ℤ × ℤ)) (k : ℕ) (p q : ℤ × ℤ) → k + 1 ≡ length L → p ≡ get_or L k p → IsMaximal L → StartsBy q.0 L →
    q.0 ≤ℤ q.1 → ¬ (q.0 ≤ℤ (p.1 +ℤ pos 1)) → AddsRun L q (L ++ q ∷ [])
adds_past_last L k p q e f m s o g =
    let far : (p.1 +ℤ pos 2) ≤ℤ q.0 = by_lt_z (p.1 +ℤ pos 1) q.0 (λ l. omega (arith, ints)) (λ l. absurd (g l)) in
    adds_apart_at L k p q e m s (subst (λ (t : ℤ × ℤ). (t.1 +ℤ pos 2) ≤ℤ q.0) f far) o

pub last_is_open : (L : List (ℤ × ℤ)) (k : ℕ) (p : ℤ × ℤ) → k + 1 ≡ length L → p ≡ get_or L k p → IsMaximal L → p.0 ≤ℤ p.1
last_is_open L k p e f m = subst (λ (t : ℤ × ℤ). t.0 ≤ℤ t.1) (sym f) (open_at L k p m (omega arith))

-- ---- what tests of a list's length say

pub untrue : {P : Type 0} (r : Bool) → r ≡ false → (IsTrue r ↔ P) → ¬ P
untrue true e h p = absurd (true≢false e)
untrue false e h p = absurd (true≢false (sym (h.1 p)))
