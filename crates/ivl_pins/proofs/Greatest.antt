-- The last of a list that ascends.
use Rattle.std.proofs.Common.{◌≡◌, ⊎_elim, inl, inr, ℤ, ◌≤ℤ◌, List, [], ◌∷◌, ◌++◌, None, Some, Option, MatchOption, refl, subst, arith}
use Rattle.std.specs.Prelude.{◌<ℤ◌}
use Rattle.std.proofs.lemmas.Int.{ints}
use Rattle.std.specs.Iterator.{YieldsLastBy}
use Rattle.ivl_laws.specs.Sets.{HasNone, SameMembers}
use Rattle.ivl_laws.specs.Counts.{IsIn}
use Rattle.ivl_laws.proofs.Counts.{in-append, in-append_right}
use Rattle.ivl_places.specs.Members.{IsAscending}
use Rattle.ivl_places.specs.Neighbours.{IsGreatest}

below_last : (M : List ℤ) (x z : ℤ) → IsAscending (M ++ x ∷ []) → IsIn M z → z <ℤ x
below_last [] x z a i = absurd i
below_last (y ∷ M) x z a (inl e) = let k = a.0 x (in-append_right M (x ∷ []) x (inl refl)) in omega (arith, ints)
below_last (y ∷ M) x z a (inr i) = below_last M x z a.1 i

last_is_greatest : (S : ℤ → Type 0) (M : List ℤ) (x : ℤ) → SameMembers S (IsIn (M ++ x ∷ [])) → IsAscending (M ++ x ∷ []) → IsGreatest x S
last_is_greatest S M x h a = (
  (h x).1 (in-append_right M (x ∷ []) x (inl refl)),
  (λ z s. ⊎_elim
      (λ i. let k = below_last M x z a i in omega (arith, ints))
      (⊎_elim (λ e. omega (arith, ints)) (λ n. absurd n))
      (in-append M (x ∷ []) z ((h z).0 s))),
)

pub greatest_from_back : {A : Type 0} (value : A → ℤ) (S : ℤ → Type 0) (all left : List ℤ) (r : Option A) → SameMembers S (IsIn all) → IsAscending all →
    YieldsLastBy value (λ (l : List ℤ). l) all r left → MatchOption r (HasNone S) (λ x. IsGreatest (value x) S)
greatest_from_back value S all left None h a y = λ z s. subst (λ (M : List ℤ). IsIn M z) y.0 ((h z).0 s)
greatest_from_back value S all left (Some x) h a y =
    last_is_greatest S left (value x) (subst (λ (M : List ℤ). SameMembers S (IsIn M)) y h) (subst IsAscending y a)
