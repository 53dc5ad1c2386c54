-- A domain that loses the members of an interval where it stands.
use Rattle.std.proofs.Common.{◌≡◌, ◌↔◌, ◌∙◌, ℕ, ◌<◌, ◌≤◌, ap, arith, cond, get_or, inl, inr, length, List, [], ◌∷◌, set, subst, sym}
use Rattle.std.specs.Prelude.{ℤ, All}
use Rattle.std.proofs.lemmas.Bool.{cases_eq}
use Rattle.std.proofs.lemmas.List.{get_or-set_other, get_or-set_same}
use Rattle.std.proofs.lemmas.List.Elements.{All-set}
use Rattle.std.proofs.lemmas.List.Sums.{sum_by-cons}
use Rattle.ivl_laws.specs.Families.{set_at}
use Rattle.ivl_laws.specs.Runs.{Covers, IsRunListIn, IsRunsOf}
use Rattle.ivl_laws.specs.Sets.{IsBetween, Without}
use Rattle.ivl_store.specs.Posts.{empty_count, has_no_run}

-- no more domains are empty than there are
pub empties_at_most : (Ls : List (List (ℤ × ℤ))) → empty_count Ls ≤ length Ls
empties_at_most [] = omega arith
empties_at_most ([] ∷ Ls) = let e = sum_by-cons (λ (s : List (ℤ × ℤ)). cond (has_no_run s) 1 0) [] Ls in let n = empties_at_most Ls in omega (arith, n, e)
empties_at_most ((p ∷ L) ∷ Ls) = let e = sum_by-cons (λ (s : List (ℤ × ℤ)). cond (has_no_run s) 1 0) (p ∷ L) Ls in let n = empties_at_most Ls in omega (arith, n, e)

-- what is left lies in the range
pub cut_in_range : (whole run : ℤ × ℤ) (old new : List (ℤ × ℤ)) → IsRunListIn whole old → IsRunsOf new (Without (Covers old) (IsBetween run)) → IsRunListIn whole new
cut_in_range whole run old new runs is = record { maximal = is.maximal; within = λ z m. runs.within z (((is.members z).0 m).0) }

pub all_cut : (whole run : ℤ × ℤ) (Ls : List (List (ℤ × ℤ))) (i : ℕ) (old new : List (ℤ × ℤ)) → i < length Ls → old ≡ get_or Ls i old → All (IsRunListIn whole) Ls
    → IsRunsOf new (Without (Covers old) (IsBetween run)) → All (IsRunListIn whole) (set Ls i new)
all_cut whole run Ls i old new lt at runs is =
    All-set (IsRunListIn whole) Ls i new (cut_in_range whole run old new (subst (IsRunListIn whole) (sym at) (runs i old lt)) is) runs

-- that domain has lost just these, and each other one nothing
pub cut_there : (run : ℤ × ℤ) (Ls : List (List (ℤ × ℤ))) (i : ℕ) (new : List (ℤ × ℤ)) → i < length Ls
    → IsRunsOf new (Without (Covers (get_or Ls i [])) (IsBetween run))
    → (j : ℕ) (v : ℤ) → set_at (set Ls i new) j v ↔ (set_at Ls j v × (j ≡ i → ¬ (IsBetween run v)))
cut_there run Ls i new lt is j v = elim (cases_eq j i) [
  | inl e ↦ (
      let here : get_or (set Ls i new) j [] ≡ new = ap (λ k. get_or (set Ls i new) k []) e ∙ get_or-set_same Ls i new [] lt in
      let m = is.members v in (
        (λ k. let u = m.0 (subst (λ s. Covers s v) here k) in (subst (λ n. set_at Ls n v) (sym e) u.0, λ _. u.1)),
        (λ u. subst (λ s. Covers s v) (sym here) (m.1 (subst (λ n. set_at Ls n v) e u.0, u.1 e))),
      ))
  | inr ne ↦ (
      let there = get_or-set_other Ls i j new [] ne in (
        (λ k. (subst (λ s. Covers s v) there k, λ e. absurd (ne e))),
        (λ u. subst (λ s. Covers s v) (sym there) u.0),
      ))
]
