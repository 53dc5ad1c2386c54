-- A run that is written at a place of a list, past what is done, or in the place of the last run, which it goes on with.
use Rattle.std.proofs.Common.{◌≡◌, Bool, true, false, IsTrue, ℕ, ◌+◌, ◌-◌, ◌≤◌, ◌<◌, ℤ, pos, ◌+ℤ◌, ◌-ℤ◌, ◌≤ℤ◌, List, [], ◌∷◌, ◌++◌, Some, length, take, set, refl, ap, sym, subst, ◌∙◌, arith}
use Rattle.std.proofs.lemmas.Int.{ints, clamps}
use Rattle.std.proofs.lemmas.List.{length-take-le, take-append-le, take_more_set}
use lib.Seq.{take-take}
use Rattle.std.specs.Int.{from_bool, int_max}
use Rattle.std.specs.Prelude.{cond, slice_get}
use Rattle.ivl_laws.specs.Sets.{IsBetween, Union}
use Rattle.ivl_laws.specs.Runs.{Covers, IsMaximal, IsRunsOf}
use Rattle.ivl_laws.proofs.Runs.{pair_same}
use Rattle.ivl_walks.specs.Order.{IsBelow}
use Rattle.ivl_walks.proofs.MergeState.{adds_above, starts_by}
use Rattle.ivl_walks.proofs.Unions.{adds_by_test, last_is_written}

-- what is done ends right below f, where the rest goes on; or there is a gap between the two
abbrev pub MeetsAt : Bool → List (ℤ × ℤ) → ℤ → ℤ → (ℤ → Type 0) → Type 0
MeetsAt true W s f R = (Some (s, f -ℤ pos 1) ≡ slice_get W (length W - 1)) × R f
MeetsAt false W s f R = IsBelow (pos 2) (Covers W) R

-- a run that is written, where r is what stands in its place then
pub put_run : (joined : Bool) (out : List (ℤ × ℤ)) (n k : ℕ) (s f : ℤ) (part r : ℤ × ℤ) (R : ℤ → Type 0) → n ≤ length out → k ≡ n - from_bool joined → k < length out →
    IsMaximal (take n out) → MeetsAt joined (take n out) s f R → (IsTrue joined → part.0 ≡ f) → (joined ≡ false → IsBelow (pos 2) (Covers (take n out)) (IsBetween part)) →
    part.0 ≤ℤ part.1 → IsBelow (pos 1) (Covers (take n out)) (IsBetween part) → r.0 ≡ cond joined s part.0 → r.1 ≡ part.1 →
    IsRunsOf (take (k + 1) (set out k r)) (Union (Covers (take n out)) (IsBetween part))
put_run true out n k s f part r R h e room m meets at apart o below low high =
    let W = take n out in
    let long = length-take-le n out h in
    let start : part.0 ≡ f = at refl in
    let near : part.0 ≤ℤ ((f -ℤ pos 1) +ℤ pos 1) = omega (arith, ints) in
    let upper : r.1 ≡ int_max (f -ℤ pos 1) part.1 = omega (arith, ints, clamps) in
    let place : k ≡ length W - from_bool true = omega (arith, e, long) in
    let added = adds_by_test true W (s, f -ℤ pos 1) part r k ((λ _. near), (λ _. refl)) meets.0 m (starts_by W part m o below) o low upper place in
    let same : take k W ≡ take k out = take-take k n out (omega (arith, e)) in
    subst (λ (L : List (ℤ × ℤ)). IsRunsOf L (Union (Covers W) (IsBetween part))) (ap (λ (L : List (ℤ × ℤ)). L ++ r ∷ []) same ∙ sym (take_more_set out k r room)) added.runs
put_run false out n k s f part r R h e room m meets at apart o below low high =
    let W = take n out in
    let same : take k out ≡ W = ap (λ (i : ℕ). take i out) (omega (arith, e)) in
    let one : r ≡ part = pair_same r part low high in
    subst (λ (L : List (ℤ × ℤ)). IsRunsOf L (Union (Covers W) (IsBetween part)))
    (ap (λ (q : ℤ × ℤ). W ++ q ∷ []) (sym one) ∙ ap (λ (L : List (ℤ × ℤ)). L ++ r ∷ []) (sym same) ∙ sym (take_more_set out k r room))
    (adds_above W part m o (apart refl)).runs

pub put_is_last : (out : List (ℤ × ℤ)) (k : ℕ) (r : ℤ × ℤ) → k < length out → Some r ≡ slice_get (take (k + 1) (set out k r)) (length (take (k + 1) (set out k r)) - 1)
put_is_last out k r h = subst (λ (L : List (ℤ × ℤ)). Some r ≡ slice_get L (length L - 1)) (sym (take_more_set out k r h)) (last_is_written (take k out) r)

-- what a list has at its start, after it was written to as a whole
pub kept_part : (n m k : ℕ) (new rest : List (ℤ × ℤ)) → n ≤ k → k ≡ length new → k ≡ m → take n (take m (new ++ rest)) ≡ take n new
kept_part n m k new rest h e f = take-take n m (new ++ rest) (omega (arith, h, f)) ∙ take-append-le n new rest (omega (arith, h, e))
