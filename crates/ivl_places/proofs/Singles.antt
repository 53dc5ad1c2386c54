-- Sets beside one run, which holds a value.
use Rattle.std.proofs.Common.{◌≡◌, ◌↔◌, ℤ, List, [], ◌∷◌, Bool, true, false, not, IsTrue, inl, inr, ⊎_elim, refl, sym, subst, true≢false}
use Rattle.std.specs.Prelude.{Result, IfOk, ◌+◌, ◌≤◌, length}
use Rattle.std.proofs.lemmas.Result.{IfOk-weaker}
use Rattle.ivl_laws.specs.Sets.{Only, Intersection, HasNone, HasSome, SymmetricDifference, Union, Without}
use Rattle.ivl_laws.specs.Runs.{Covers, IsRunsOf}
use Rattle.ivl_laws.proofs.SetLaws.{IsRunsOf-same, only_is_covered}
use Rattle.ivl_laws.proofs.Ranges.{IsRunsOf-none}
use Rattle.ivl_laws.proofs.Lengths.{length_of_union}
use Rattle.ivl_walks.proofs.RunBounds.{length_of_without}
use lib.Signed.{≤ℤ_refl}

-- a value that is a member is all that the two have in common, and else nothing is
pub common_with_member : {E : Type 0} (r : Result (List (ℤ × ℤ)) E) (L : List (ℤ × ℤ)) (v : ℤ) → Covers L v → IfOk r (λ N. N ≡ (v, v) ∷ []) → IfOk r (λ N. IsRunsOf N (Intersection (Covers L) (Only v)))
common_with_member r L v c = IfOk-weaker r _ _ (λ N e. subst (λ (M : List (ℤ × ℤ)). IsRunsOf M (Intersection (Covers L) (Only v))) (sym e) (record {
  maximal = (≤ℤ_refl v, tt, tt);
  members = λ z. ((λ d. let o = (only_is_covered v z).1 d in (subst (Covers L) (sym o) c, o)), (λ (d, o). (only_is_covered v z).0 o));
}))

pub common_with_other : (L : List (ℤ × ℤ)) (v : ℤ) → ¬ (Covers L v) → IsRunsOf [] (Intersection (Covers L) (Only v))
common_with_other L v n = IsRunsOf-none (Intersection (Covers L) (Only v)) (λ z (c, o). n (subst (Covers L) o c))

-- one value changes the number of runs by one at most
pub length_with_one : (L R : List (ℤ × ℤ)) (v : ℤ) → IsRunsOf R (Union (Covers L) (Only v)) → length R ≤ length L + 1
length_with_one L R v r = length_of_union L ((v, v) ∷ []) R (IsRunsOf-same (Union (Covers L) (Only v)) (Union (Covers L) (Covers ((v, v) ∷ []))) R
    (λ z. (⊎_elim (λ c. inl c) (λ o. inr ((only_is_covered v z).0 o)), ⊎_elim (λ c. inl c) (λ c. inr ((only_is_covered v z).1 c)))) r)

pub length_but_one : (L R : List (ℤ × ℤ)) (v : ℤ) → IsRunsOf R (Without (Covers L) (Only v)) → length R ≤ length L + 1
length_but_one L R v r = length_of_without L ((v, v) ∷ []) R (IsRunsOf-same (Without (Covers L) (Only v)) (Without (Covers L) (Covers ((v, v) ∷ []))) R
    (λ z. ((λ (c, n). (c, λ d. n ((only_is_covered v z).1 d))), (λ (c, n). (c, λ o. n ((only_is_covered v z).0 o))))) r)

-- a value is in exactly one of the set and of what is changed by it
pub alone_with_member : {E : Type 0} (r : Result (List (ℤ × ℤ)) E) (L : List (ℤ × ℤ)) (v : ℤ) → Covers L v →
    IfOk r (λ N. IsRunsOf N (Without (Covers L) (Only v))) → IfOk r (λ N. IsRunsOf N (SymmetricDifference (Covers L) (Only v)))
alone_with_member r L v c = IfOk-weaker r _ _ (λ N i. IsRunsOf-same (Without (Covers L) (Only v)) (SymmetricDifference (Covers L) (Only v)) N
    (λ z. ((λ w. inl w), ⊎_elim (λ w. w) (λ (o, n). absurd (n (subst (Covers L) (sym o) c))))) i)

pub alone_with_other : {E : Type 0} (r : Result (List (ℤ × ℤ)) E) (L : List (ℤ × ℤ)) (v : ℤ) → ¬ (Covers L v) →
    IfOk r (λ N. IsRunsOf N (Union (Covers L) (Only v))) → IfOk r (λ N. IsRunsOf N (SymmetricDifference (Covers L) (Only v)))
alone_with_other r L v n = IfOk-weaker r _ _ (λ N i. IsRunsOf-same (Union (Covers L) (Only v)) (SymmetricDifference (Covers L) (Only v)) N
    (λ z. (⊎_elim (λ c. inl (c, λ o. n (subst (Covers L) o c))) (λ o. inr (o, λ c. n (subst (Covers L) o c))), ⊎_elim (λ (c, m). inl c) (λ (o, m). inr o))) i)

pub not_some : (b : Bool) (S : ℤ → Type 0) → (IsTrue b ↔ HasSome S) → IsTrue (not b) ↔ HasNone S
not_some true S e = ((λ t. absurd (true≢false (sym t))), (λ n. let (z, s) = e.0 refl in absurd (n z s)))
not_some false S e = ((λ t z s. true≢false (sym (e.1 (z, s)))), (λ n. refl))
