-- Laws of sets of whole numbers.
use Rattle.std.proofs.Common.{◌≡◌, ◌⊎◌, ◌↔◌, inl, inr, ⊎_elim, ℤ, ◌≤ℤ◌, List, [], ◌∷◌, refl, sym, subst, arith, pos, ◌+ℤ◌, ◌-ℤ◌, ◌*ℤ◌}
use Rattle.std.proofs.lemmas.Int.{ints}
use lib.Signed.{≤ℤ_refl}
use Rattle.ivl_laws.specs.Sets.{Above, AtLeast, AtMost, Below, IsBetween, IsSubset, SameMembers, Union, Intersection, Without, SymmetricDifference, Complement, Sums, Differences, ExactProducts, Products, InOneRun, Only}
use Rattle.ivl_laws.specs.Runs.{Covers, IsRunsOf}
use Rattle.ivl_laws.proofs.Runs.{runs_are_unique, ≤ℤ_antisymm, ≤ℤ_trans}
use Rattle.ivl_laws.proofs.Products.{run_ends}

-- whether a number is a member can be told
abbrev pub IsDecided : (ℤ → Type 0) → Type 0
IsDecided S = (z : ℤ) → S z ⊎ (¬ (S z))

module _ (S T : ℤ → Type 0) where
  pub same_members_sym : SameMembers S T → SameMembers T S
  same_members_sym h z = ((h z).1, (h z).0)

  pub same_members_trans : (U : ℤ → Type 0) → SameMembers S T → SameMembers T U → SameMembers S U
  same_members_trans U h k z = ((λ s. (k z).0 ((h z).0 s)), (λ u. (h z).1 ((k z).1 u)))

  -- sets that include each other
  pub same_members_antisym : IsSubset S T → IsSubset T S → SameMembers S T
  same_members_antisym h k z = (h z, k z)

  -- ---- De Morgan
  pub complement-union : (whole : ℤ × ℤ) → SameMembers (Complement whole (Union S T)) (Intersection (Complement whole S) (Complement whole T))
  complement-union whole z = (
    (λ (b, n). ((b, λ s. n (inl s)), (b, λ t. n (inr t)))),
    (λ (x, y). (x.0, ⊎_elim x.1 y.1)),
  )

  pub complement-intersection : (whole : ℤ × ℤ) → IsDecided S → SameMembers (Complement whole (Intersection S T)) (Union (Complement whole S) (Complement whole T))
  complement-intersection whole d z = (
    (λ (b, n). ⊎_elim (λ s. inr (b, λ t. n (s, t))) (λ m. inl (b, m)) (d z)),
    ⊎_elim (λ (b, n). (b, λ st. n st.0)) (λ (b, n). (b, λ st. n st.1)),
  )

  -- ---- inclusion
  pub included_by_union : IsSubset S T ↔ SameMembers (Union S T) T
  included_by_union = ((λ h z. (⊎_elim (h z) (λ t. t), λ t. inr t)), (λ h z s. (h z).0 (inl s)))

  -- ---- difference by complement
  pub difference-complement : (whole : ℤ × ℤ) → IsSubset S (IsBetween whole) → SameMembers (Without S T) (Intersection S (Complement whole T))
  difference-complement whole h z = ((λ (s, n). (s, (h z s, n))), (λ (s, c). (s, c.1)))

  -- in the union and not in both
  pub symmetric_difference-union : SameMembers (SymmetricDifference S T) (Without (Union S T) (Intersection S T))
  symmetric_difference-union z = (
    ⊎_elim (λ (s, n). (inl s, λ b. n b.1)) (λ (t, n). (inr t, λ b. n b.0)),
    (λ (u, n). ⊎_elim (λ s. inl (s, λ t. n (s, t))) (λ t. inr (t, λ s. n (s, t))) u),
  )

  -- ---- the order of sets
  pub subset-intersection : (U : ℤ → Type 0) → IsSubset U (Intersection S T) ↔ (IsSubset U S × IsSubset U T)
  subset-intersection U = ((λ h. ((λ z u. (h z u).0), (λ z u. (h z u).1))), (λ (h, k) z u. (h z u, k z u)))

  pub union-subset : (U : ℤ → Type 0) → IsSubset (Union S T) U ↔ (IsSubset S U × IsSubset T U)
  union-subset U = ((λ h. ((λ z s. h z (inl s)), (λ z t. h z (inr t)))), (λ (h, k) z. ⊎_elim (h z) (k z)))

  -- ---- the lattice of sets
  pub union_comm : SameMembers (Union S T) (Union T S)
  union_comm z = (⊎_elim (λ s. inr s) (λ t. inl t), ⊎_elim (λ t. inr t) (λ s. inl s))

  pub union-same_left : (U : ℤ → Type 0) → SameMembers S T → SameMembers (Union S U) (Union T U)
  union-same_left U h z = (⊎_elim (λ s. inl ((h z).0 s)) (λ u. inr u), ⊎_elim (λ t. inl ((h z).1 t)) (λ u. inr u))

  pub intersection_comm : SameMembers (Intersection S T) (Intersection T S)
  intersection_comm z = ((λ (s, t). (t, s)), (λ (t, s). (s, t)))

  pub union_assoc : (U : ℤ → Type 0) → SameMembers (Union (Union S T) U) (Union S (Union T U))
  union_assoc U z = (
    ⊎_elim (⊎_elim (λ s. inl s) (λ t. inr (inl t))) (λ u. inr (inr u)),
    ⊎_elim (λ s. inl (inl s)) (⊎_elim (λ t. inl (inr t)) (λ u. inr u)),
  )

  pub intersection_assoc : (U : ℤ → Type 0) → SameMembers (Intersection (Intersection S T) U) (Intersection S (Intersection T U))
  intersection_assoc U z = ((λ ((s, t), u). (s, (t, u))), (λ (s, (t, u)). ((s, t), u)))

  pub union-intersection : SameMembers (Union S (Intersection S T)) S
  union-intersection z = (⊎_elim (λ s. s) (λ (s, t). s), λ s. inl s)

  pub intersection-union : SameMembers (Intersection S (Union S T)) S
  intersection-union z = ((λ (s, u). s), λ s. (s, inl s))

module _ (S : ℤ → Type 0) where
  pub same_members_refl : SameMembers S S
  same_members_refl z = ((λ s. s), (λ s. s))

  pub complement_twice : (whole : ℤ × ℤ) → IsDecided S → IsSubset S (IsBetween whole) → SameMembers (Complement whole (Complement whole S)) S
  complement_twice whole d h z = (
    (λ (b, n). ⊎_elim (λ s. s) (λ m. absurd (n (b, m))) (d z)),
    (λ s. (h z s, λ c. c.1 s)),
  )

  pub union_idem : SameMembers (Union S S) S
  union_idem z = (⊎_elim (λ s. s) (λ s. s), λ s. inl s)

  pub intersection_idem : SameMembers (Intersection S S) S
  intersection_idem z = ((λ (s, t). s), λ s. (s, s))

-- ---- one list for one set
pub IsRunsOf-same : (S T : ℤ → Type 0) (L : List (ℤ × ℤ)) → SameMembers S T → IsRunsOf L S → IsRunsOf L T
IsRunsOf-same S T L h r = record { maximal = r.maximal; members = λ z. ((λ c. (h z).0 ((r.members z).0 c)), (λ t. (r.members z).1 ((h z).1 t))) }

pub IsRunsOf-unique : (S T : ℤ → Type 0) (L M : List (ℤ × ℤ)) → SameMembers S T → IsRunsOf L S → IsRunsOf M T → L ≡ M
IsRunsOf-unique S T L M h r q = runs_are_unique L M r.maximal q.maximal
    (λ z. ((λ c. (q.members z).1 ((h z).0 ((r.members z).0 c))), (λ c. (r.members z).1 ((h z).1 ((q.members z).0 c)))))

-- ---- monotony
module _ (S S' T T' : ℤ → Type 0) (h : IsSubset S S') (k : IsSubset T T') where
  pub sums_are_monotone : IsSubset (Sums S T) (Sums S' T')
  sums_are_monotone z (x, y, s, t, e) = (x, y, h x s, k y t, e)

  pub differences_are_monotone : IsSubset (Differences S T) (Differences S' T')
  differences_are_monotone z (x, y, s, t, e) = (x, y, h x s, k y t, e)

  pub exact_products_are_monotone : IsSubset (ExactProducts S T) (ExactProducts S' T')
  exact_products_are_monotone z (x, y, s, t, e) = (x, y, h x s, k y t, e)

  pub products_are_monotone : IsSubset (Products S T) (Products S' T')
  products_are_monotone z (x, x', y, y', r, s, low, high) = (x, x', y, y', (λ w b. h w (r w b)), (λ w b. k w (s w b)), low, high)

-- ---- shrinks, as cuts by an interval that reaches as far as the set does
module _ (S : ℤ → Type 0) (whole : ℤ × ℤ) (h : IsSubset S (IsBetween whole)) (v : ℤ) where
  pub at_least_is_cut : SameMembers (AtLeast v S) (Intersection S (IsBetween (v, whole.1)))
  at_least_is_cut z = ((λ (s, a). (s, (a, (h z s).1))), (λ (s, b). (s, b.0)))

  pub at_most_is_cut : SameMembers (AtMost v S) (Intersection S (IsBetween (whole.0, v)))
  at_most_is_cut z = ((λ (s, a). (s, ((h z s).0, a))), (λ (s, b). (s, b.1)))

  pub above_is_cut : SameMembers (Above v S) (Intersection S (IsBetween (v +ℤ pos 1, whole.1)))
  above_is_cut z = ((λ (s, a). (s, (omega (arith, ints), (h z s).1))), (λ (s, b). let low = b.0 in (s, omega (arith, ints))))

  pub below_is_cut : SameMembers (Below v S) (Intersection S (IsBetween (whole.0, v -ℤ pos 1)))
  below_is_cut z = ((λ (s, a). (s, ((h z s).0, omega (arith, ints)))), (λ (s, b). let high = b.1 in (s, omega (arith, ints))))

-- ---- products of members, and all products

-- a member is in one run with itself
pub one_run_of_member : (S : ℤ → Type 0) (x : ℤ) → S x → InOneRun S x x
one_run_of_member S x s z b = subst S (≤ℤ_antisymm x z (⊎_elim (λ c. c.0) (λ c. c.0) b) (⊎_elim (λ c. c.1) (λ c. c.1) b)) s

module _ (S T : ℤ → Type 0) where
  pub exact_products_are_products : IsSubset (ExactProducts S T) (Products S T)
  exact_products_are_products z (x, y, s, t, e) =
      (x, x, y, y, one_run_of_member S x s, one_run_of_member T y t, subst (λ (w : ℤ). w ≤ℤ z) (sym e) (≤ℤ_refl z), subst (λ (w : ℤ). z ≤ℤ w) (sym e) (≤ℤ_refl z))

  -- a product lies between two products of members, so all lie within a pair where those do
  pub products_fit : (w : ℤ × ℤ) → IsSubset (ExactProducts S T) (IsBetween w) ↔ IsSubset (Products S T) (IsBetween w)
  products_fit w = (there, λ h z e. h z (exact_products_are_products z e))
    where
      there : IsSubset (ExactProducts S T) (IsBetween w) → IsSubset (Products S T) (IsBetween w)
      there h z (x, x', y, y', r, q, low, high) =
          let (sx, sx') = run_ends S x x' r in
          let (ty, ty') = run_ends T y y' q in (
            ≤ℤ_trans w.0 (x *ℤ y) z (h (x *ℤ y) (x, y, sx, ty, refl)).0 low,
            ≤ℤ_trans z (x' *ℤ y') w.1 high (h (x' *ℤ y') (x', y', sx', ty', refl)).1,
          )

-- ---- operations with one number

-- one number, as a set of one run
pub only_is_covered : (c : ℤ) → SameMembers (Only c) (Covers ((c, c) ∷ []))
only_is_covered c z = (
  (λ e. inl (subst (λ (x : ℤ). c ≤ℤ x) (sym e) (≤ℤ_refl c), subst (λ (x : ℤ). x ≤ℤ c) (sym e) (≤ℤ_refl c))),
  ⊎_elim (λ b. ≤ℤ_antisymm z c b.1 b.0) (λ n. absurd n),
)

module _ (S : ℤ → Type 0) (c : ℤ) where
  to_covered : IsSubset (Only c) (Covers ((c, c) ∷ []))
  to_covered z = (only_is_covered c z).0

  of_covered : IsSubset (Covers ((c, c) ∷ [])) (Only c)
  of_covered z = (only_is_covered c z).1

  same : IsSubset S S
  same z s = s

  pub sums-only : SameMembers (Sums S (Only c)) (Sums S (Covers ((c, c) ∷ [])))
  sums-only z = (sums_are_monotone S S (Only c) (Covers ((c, c) ∷ [])) same to_covered z, sums_are_monotone S S (Covers ((c, c) ∷ [])) (Only c) same of_covered z)

  pub differences-only : SameMembers (Differences S (Only c)) (Differences S (Covers ((c, c) ∷ [])))
  differences-only z = (differences_are_monotone S S (Only c) (Covers ((c, c) ∷ [])) same to_covered z, differences_are_monotone S S (Covers ((c, c) ∷ [])) (Only c) same of_covered z)

  pub exact_products-only : SameMembers (ExactProducts S (Only c)) (ExactProducts S (Covers ((c, c) ∷ [])))
  exact_products-only z = (exact_products_are_monotone S S (Only c) (Covers ((c, c) ∷ [])) same to_covered z, exact_products_are_monotone S S (Covers ((c, c) ∷ [])) (Only c) same of_covered z)

  pub products-only : SameMembers (Products S (Only c)) (Products S (Covers ((c, c) ∷ [])))
  products-only z = (products_are_monotone S S (Only c) (Covers ((c, c) ∷ [])) same to_covered z, products_are_monotone S S (Covers ((c, c) ∷ [])) (Only c) same of_covered z)
