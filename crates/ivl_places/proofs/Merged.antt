-- What a merge wrote to a list of intervals.
use Rattle.std.proofs.Common.{◌≡◌, ℕ, ℤ, List, [], ◌∷◌, map, refl, ap, sym, subst, ◌∙◌}
use Rattle.ivl_laws.specs.Sets.{IsBetween}
use Rattle.ivl_laws.specs.Runs.{Covers, IsRunListIn, IsRunsOf}
use Rattle.ivl_walks.specs.Sinks.{IsMerged}

-- an interval is its pair of bounds
pub pairs_are : (L : List (ℤ × ℤ)) → map (λ (p : ℤ × ℤ). p) L ≡ L
pairs_are [] = refl
pairs_are (p ∷ L) = ap (λ (M : List (ℤ × ℤ)). p ∷ M) (pairs_are L)

pub no_pairs : (L : List (ℤ × ℤ)) → L ≡ [] → map (λ (p : ℤ × ℤ). p) L ≡ []
no_pairs L e = pairs_are L ∙ e

pub list_of_pairs : (whole : ℤ × ℤ) (L M : List (ℤ × ℤ)) → M ≡ L → IsRunListIn whole L → IsRunListIn whole (map (λ (p : ℤ × ℤ). p) M)
list_of_pairs whole L M e r = subst (IsRunListIn whole) (sym (pairs_are M ∙ e)) r

-- of two lists
pub merged_runs : (F : (ℤ → Type 0) → (ℤ → Type 0) → ℤ → Type 0) (A B A' B' items : List (ℤ × ℤ)) (most : ℕ) → A' ≡ A → B' ≡ B →
    (L : List (ℤ × ℤ)) × IsMerged (λ L. map (λ (p : ℤ × ℤ). p) items ≡ L) (F (Covers (map (λ (p : ℤ × ℤ). p) A')) (Covers (map (λ (p : ℤ × ℤ). p) B'))) most L → IsRunsOf items (F (Covers A) (Covers B))
merged_runs F A B A' B' items most e f (L, u) =
    subst (λ (M : List (ℤ × ℤ)). IsRunsOf items (F (Covers A) (Covers M))) (pairs_are B' ∙ f)
    (subst (λ (M : List (ℤ × ℤ)). IsRunsOf items (F (Covers M) (Covers (map (λ (p : ℤ × ℤ). p) B')))) (pairs_are A' ∙ e)
    (subst (λ (M : List (ℤ × ℤ)). IsRunsOf M (F (Covers (map (λ (p : ℤ × ℤ). p) A')) (Covers (map (λ (p : ℤ × ℤ). p) B')))) (sym u.held ∙ pairs_are items) u.runs))

-- of one list
pub merged_rest : (F : (ℤ → Type 0) → ℤ → Type 0) (A A' items : List (ℤ × ℤ)) (most : ℕ) → A' ≡ A →
    (L : List (ℤ × ℤ)) × IsMerged (λ L. map (λ (p : ℤ × ℤ). p) items ≡ L) (F (Covers (map (λ (p : ℤ × ℤ). p) A'))) most L → IsRunsOf items (F (Covers A))
merged_rest F A A' items most e (L, u) =
    subst (λ (M : List (ℤ × ℤ)). IsRunsOf items (F (Covers M))) (pairs_are A' ∙ e)
    (subst (λ (M : List (ℤ × ℤ)). IsRunsOf M (F (Covers (map (λ (p : ℤ × ℤ). p) A')))) (sym u.held ∙ pairs_are items) u.runs)

pub merged_list : (whole : ℤ × ℤ) (S : ℤ → Type 0) (items : List (ℤ × ℤ)) → IsRunsOf items S → ((z : ℤ) → S z → IsBetween whole z) → IsRunListIn whole items
merged_list whole S items r w = record { maximal = r.maximal; within = λ z c. w z ((r.members z).0 c) }
