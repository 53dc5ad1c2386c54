-- A run put behind those of a set.
use Rattle.std.proofs.Common.{◌≡◌, ℕ, ◌≤◌, ℤ, pos, ◌+ℤ◌, ◌≤ℤ◌, List, [], ◌∷◌, ◌++◌, ⊎_elim, refl, sym, subst, arith}
use Rattle.std.specs.Prelude.{◌<ℤ◌}
use Rattle.std.proofs.lemmas.Int.{ints}
use Rattle.ivl_laws.specs.Sets.{IsBetween, IsInRange}
use Rattle.ivl_laws.specs.Runs.{Covers, IsRunListIn}
use Rattle.ivl_laws.specs.Bounds.{width_of}
use Rattle.ivl_laws.specs.Counts.{IsCountOf}
use Rattle.ivl_places.proofs.CutRuns.{AddsPart, adds_behind}
use Rattle.ivl_places.proofs.IntervalOperands.{holds_one}

-- the run p behind the list S, which is the list I of a set
pub pushed_run : (whole : ℤ × ℤ) (I S : List (ℤ × ℤ)) (p : ℤ × ℤ) (n more greatest : ℕ) → IsRunListIn whole I → IsCountOf n (Covers I) → I ≡ S
    → ((v : ℤ) → Covers S v → (v +ℤ pos 1) <ℤ p.0) → p.0 ≤ℤ p.1 → IsInRange whole p → IsCountOf more (IsBetween p) → width_of whole ≤ greatest
    → AddsPart whole I (I ++ p ∷ []) (p ∷ []) p n more greatest
pushed_run whole I S p n more greatest l c s far filled in_range k g =
    let one = holds_one whole p p [] (p ∷ []) more refl refl refl filled in_range k in
    let apart = subst (λ (K : List (ℤ × ℤ)). (v : ℤ) → Covers K v → (v +ℤ pos 1) <ℤ p.0) (sym s) far in
    adds_behind whole I (p ∷ []) (p ∷ []) p n more greatest l c
    (λ x y u b. let low = apart x u in let from = b.0 in omega (arith, ints))
    record { maximal = one.0.maximal; members = λ z. ((λ h. (h, ⊎_elim (λ b. b) (λ a. absurd a) h)), (λ h. h.0)) }
    one.0 one.1 g
