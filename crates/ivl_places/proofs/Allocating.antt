-- Where an edit needs no more room: it adds no run, and splits none.
use Rattle.std.proofs.Common.{◌≡◌, ⊎_elim, inl, ℕ, ◌+◌, ◌<◌, ℤ, List, [], ◌∷◌, length, get_or, refl, sym, ap, subst, arith}
use Rattle.std.proofs.lemmas.Int.{ints}
use Rattle.std.proofs.Math.Nat.{eq-or-lt_of_le}
use Rattle.std.specs.Prelude.{IsOk, None, Option, Result, Some}
use Rattle.ivl_laws.specs.Sets.{Above, Below, HasSome, Intersection, IsBetween, IsSubset}
use Rattle.ivl_laws.specs.Runs.{Covers, IsMaximal, IsRunsOf}
use Rattle.ivl_laws.proofs.Places.{covers_at}
use Rattle.ivl_laws.proofs.Runs.{lower_end, upper_end}
use Rattle.ivl_places.specs.Edits.{IsSpan, widened}
use Rattle.ivl_places.proofs.Splicing.{left_where_none}
use Rattle.ivl_laws.proofs.Slices.{same_item}

-- some run is in the way of an interval that has a member in common with the runs
pub some_in_span : (L : List (ℤ × ℤ)) (W : ℤ × ℤ) (i j : ℕ) → IsMaximal L → IsSpan L W.0 W.1 i j → HasSome (Intersection (Covers L) (IsBetween W)) → i < j
some_in_span L W i j m s (z, (c, b)) = ⊎_elim
    (λ e. let left = ((left_where_none L W i j m s e).members z).0 c in absurd (left.1 b))
    (λ lt. lt)
    (eq-or-lt_of_le s.in_order)

-- what is left of one run below W and above it: the run holds W and the numbers next to it
pub around_split : (L : List (ℤ × ℤ)) (W p q : ℤ × ℤ) (i k : ℕ) (d e : ℤ × ℤ) → i < length L → k ≡ i →
    IsRunsOf (p ∷ []) (Below W.0 (IsBetween (get_or L i d))) → IsRunsOf (q ∷ []) (Above W.1 (IsBetween (get_or L k e))) → IsSubset (IsBetween (widened W)) (Covers L)
around_split L W p q i k d e h same x y z b =
    let low = (x.members p.0).0 (inl (lower_end p x.maximal.0)) in
    let high = (y.members q.1).0 (inl (upper_end q y.maximal.0)) in
    let there : get_or L k e ≡ get_or L i d = subst (λ (n : ℕ). get_or L n e ≡ get_or L i d) (sym same) (same_item L i e d h) in
    let top = ap (λ (r : ℤ × ℤ). r.1) there in
    covers_at L i d z h (omega (arith, ints, low, b.0), omega (arith, ints, high, top, b.1))

-- an edit that needs more room only where it leaves two parts in the place of one run
pub ok_unless_split : {A E : Type 0} (r : Result A E) (o p : Option (ℤ × ℤ)) (i j : ℕ) (S : Type 0) → i < j → (p ≡ None → i < j → IsOk r) → (o ≡ None → i < j → IsOk r) → (i + 1 < j → IsOk r) →
    ((x y : ℤ × ℤ) → j ≡ i + 1 → o ≡ Some x → p ≡ Some y → S) → ¬ S → IsOk r
ok_unless_split r o None i j S h a b c d n = a refl h
ok_unless_split r None (Some y) i j S h a b c d n = b refl h
ok_unless_split r (Some x) (Some y) i j S h a b c d n = ⊎_elim (λ e. absurd (n (d x y (sym e) refl refl))) c (eq-or-lt_of_le (omega arith))
