-- Whether a set has a member, by the number of its runs.
use Rattle.std.proofs.Common.{◌≡◌, ◌↔◌, inl, ⊎_elim, ℕ, ℤ, List, [], ◌∷◌, length, IsTrue, nat_eq, nat_lt, arith}
use Rattle.std.proofs.lemmas.Bool.{eq-eqb, eqb-true, lt-ltb, ltb-true}
use Rattle.ivl_laws.specs.Sets.{HasNone, HasSome, Intersection, IsSubset, Without}
use Rattle.ivl_laws.specs.Runs.{Covers, IsRunsOf}
use Rattle.ivl_laws.proofs.Lengths.{decide_covers}
use Rattle.ivl_laws.proofs.Runs.{lower_end}
use Rattle.ivl_buffers.specs.Merging.{IsLaid}

has_no_run : (S : ℤ → Type 0) (n : ℕ) (L : List (ℤ × ℤ)) → n ≡ length L → IsRunsOf L S → IsTrue (nat_eq n 0) ↔ HasNone S
has_no_run S n [] e r = ((λ t z s. (r.members z).1 s), (λ h. eq-eqb n 0 e))
has_no_run S n (p ∷ L) e r = (
  (λ t. let z = eqb-true n 0 t in absurd (omega arith)),
  (λ h. absurd (h p.0 ((r.members p.0).0 (inl (lower_end p r.maximal.0))))),
)

has_a_run : (S : ℤ → Type 0) (n : ℕ) (L : List (ℤ × ℤ)) → n ≡ length L → IsRunsOf L S → IsTrue (nat_lt 0 n) ↔ HasSome S
has_a_run S n [] e r = ((λ t. let z = ltb-true 0 n t in absurd (omega arith)), (λ h. absurd ((r.members h.0).1 h.1)))
has_a_run S n (p ∷ L) e r = ((λ t. (p.0, (r.members p.0).0 (inl (lower_end p r.maximal.0)))), (λ h. lt-ltb 0 n (omega arith)))

-- no number is in the first list and not in the second
pub within_by_count : (A B old new : List (ℤ × ℤ)) (n : ℕ) → (L : List (ℤ × ℤ)) × IsLaid (Without (Covers A) (Covers B)) old new n L → IsTrue (nat_eq n 0) ↔ IsSubset (Covers A) (Covers B)
within_by_count A B old new n (L, laid) =
    let none = has_no_run (Without (Covers A) (Covers B)) n L laid.count laid.runs in (
      (λ t z a. ⊎_elim (λ b. b) (λ out. absurd (none.0 t z (a, out))) (decide_covers B z)),
      (λ h. none.1 (λ z w. w.1 (h z w.0))),
    )

pub meets_by_count : (A B old new : List (ℤ × ℤ)) (n : ℕ) → (L : List (ℤ × ℤ)) × IsLaid (Intersection (Covers A) (Covers B)) old new n L → IsTrue (nat_lt 0 n) ↔ HasSome (Intersection (Covers A) (Covers B))
meets_by_count A B old new n (L, laid) = has_a_run (Intersection (Covers A) (Covers B)) n L laid.count laid.runs
