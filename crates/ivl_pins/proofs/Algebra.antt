-- Laws of run lists that the calls of sets answer.
use Rattle.std.proofs.Common.{◌≡◌, ◌+◌, inl, inr, ⊎_elim, ℕ, ℤ, List, [], ◌∷◌, sym, subst}
use Rattle.ivl_laws.specs.Sets.{Complement, Intersection, IsBetween, IsSubset, Only, SameMembers, Union}
use Rattle.ivl_laws.specs.Runs.{Covers, IsRunListIn, IsRunsOf}
use Rattle.ivl_laws.specs.Counts.{IsCountOf}
use Rattle.ivl_laws.proofs.Counts.{IsCountOf-same, union_and_intersection}
use Rattle.ivl_laws.proofs.Lengths.{decide_covers}

-- R is the complement of A, and S that of R
pub complement_of_complement : (whole : ℤ × ℤ) (A R S : List (ℤ × ℤ)) → IsRunListIn whole A
    → IsRunsOf R (Complement whole (Covers A)) → IsRunsOf S (Complement whole (Covers R)) → SameMembers (Covers S) (Covers A)
complement_of_complement whole A R S i r s z = (
  (λ m. let k = (s.members z).0 m in ⊎_elim (λ a. a) (λ n. absurd (k.1 ((r.members z).1 (k.0, n)))) (decide_covers A z)),
  (λ a. (s.members z).1 (i.within z a, λ m. ((r.members z).0 m).1 a)),
)

-- M is what A and B have in common, R its complement, and U the union of the complements P of A and Q of B
pub complement_of_common : (whole : ℤ × ℤ) (A B M R P Q U : List (ℤ × ℤ)) → IsRunsOf M (Intersection (Covers A) (Covers B))
    → IsRunsOf R (Complement whole (Covers M)) → IsRunsOf P (Complement whole (Covers A)) → IsRunsOf Q (Complement whole (Covers B))
    → IsRunsOf U (Union (Covers P) (Covers Q)) → SameMembers (Covers R) (Covers U)
complement_of_common whole A B M R P Q U m r p q u z = (
  (λ x. let k = (r.members z).0 x in
      (u.members z).1 (⊎_elim (λ a. inr ((q.members z).1 (k.0, λ b. k.1 ((m.members z).1 (a, b))))) (λ n. inl ((p.members z).1 (k.0, n))) (decide_covers A z))),
  (λ x. (r.members z).1 (⊎_elim
      (λ y. let k = (p.members z).0 y in (k.0, λ w. k.1 ((m.members z).0 w).0))
      (λ y. let k = (q.members z).0 y in (k.0, λ w. k.1 ((m.members z).0 w).1))
      ((u.members z).0 x))),
)

-- the counts of the union U and of what is in common, M, beside those of A and B
pub counts_add_up : (A B U M : List (ℤ × ℤ)) (a b u m : ℕ) → IsRunsOf U (Union (Covers A) (Covers B)) → IsRunsOf M (Intersection (Covers A) (Covers B))
    → IsCountOf a (Covers A) → IsCountOf b (Covers B) → IsCountOf u (Covers U) → IsCountOf m (Covers M) → u + m ≡ a + b
counts_add_up A B U M a b u m p q ca cb cu cm =
    union_and_intersection (Covers A) (Covers B) a b u m ca cb
    (IsCountOf-same (Covers U) (Union (Covers A) (Covers B)) u p.members cu)
    (IsCountOf-same (Covers M) (Intersection (Covers A) (Covers B)) m q.members cm)

-- F with the list of one number beside F with that number alone
module _ (F : (ℤ → Type 0) → (ℤ → Type 0) → ℤ → Type 0) (A L : List (ℤ × ℤ)) (x : ℤ) (e : L ≡ (x, x) ∷ [])
    (alone : SameMembers (F (Covers A) (Only x)) (F (Covers A) (Covers ((x, x) ∷ [])))) where
  as_list : (z : ℤ) → F (Covers A) (Only x) z → F (Covers A) (Covers L) z
  as_list z m = subst (λ (M : List (ℤ × ℤ)). F (Covers A) (Covers M) z) (sym e) ((alone z).0 m)

  as_number : (z : ℤ) → F (Covers A) (Covers L) z → F (Covers A) (Only x) z
  as_number z m = (alone z).1 (subst (λ (M : List (ℤ × ℤ)). F (Covers A) (Covers M) z) e m)

  pub results_with_one_fit : (whole : ℤ × ℤ) → IsSubset (F (Covers A) (Only x)) (IsBetween whole) → IsSubset (F (Covers A) (Covers L)) (IsBetween whole)
  results_with_one_fit whole h z m = h z (as_number z m)

  pub results_with_one_agree : (P Q : List (ℤ × ℤ)) → IsRunsOf P (F (Covers A) (Only x)) → IsRunsOf Q (F (Covers A) (Covers L)) → SameMembers (Covers P) (Covers Q)
  results_with_one_agree P Q p q z = (
    (λ m. (q.members z).1 (as_list z ((p.members z).0 m))),
    (λ m. (p.members z).1 (as_number z ((q.members z).0 m))),
  )
